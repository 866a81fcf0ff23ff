-- Worked cases of x under the hint (-180, 180).
use Rattle.std.specs.Prelude.{false, List, [], ◌∷◌, map, Some, None, Option, Float}
use Rattle.std.specs.Float.{nan}
use Rattle.interval.specs.Pairs.{Pair, pair}
use Rattle.shapes.specs.declared.code.Dimension.TheVariants.{Xy}
use Rattle.shapes.specs.declared.code.Kind.TheVariants.{Point}
use Rattle.shapes.specs.Source.{Shape}
use Rattle.bounding.specs.Record.{record_of}
use Rattle.bounding.specs.Told.{told}
use Rattle.cases.specs.Case.{Case, case, axis, plus, minus}

abbrev globe : Pair
globe = pair (minus 180) (plus 180)

abbrev point_at : Float → Shape
point_at v = record { code = record { kind = Point; dim = Xy }; coords = record { x = v; y = v; z = nan; m = nan; joins = false } ∷ [] }

-- what is told of x after points at these values
abbrev x_told : List Float → Option Pair
x_told vs = (told globe (record_of globe (map point_at vs))).x

abbrev pub bounder : List Case
bounder =
    case (axis (x_told (plus 10 ∷ []))) (axis (Some (pair (plus 10) (plus 10))))
    ∷ case (axis (x_told (minus 179 ∷ plus 179 ∷ []))) (axis (Some (pair (plus 179) (minus 179))))
    ∷ case (axis (x_told (minus 179 ∷ plus 179 ∷ plus 0 ∷ []))) (axis (Some (pair (minus 179) (plus 179))))
    ∷ case (axis (x_told (minus 90 ∷ plus 90 ∷ []))) (axis (Some (pair (plus 90) (minus 90))))
    ∷ case (axis (x_told (minus 89 ∷ plus 89 ∷ []))) (axis (Some (pair (minus 89) (plus 89))))
    ∷ case (axis (x_told [])) (axis None)
    ∷ []
