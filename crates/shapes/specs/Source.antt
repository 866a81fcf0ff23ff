-- What a source of a shape means, and the laws that each keeps.
use Rattle.std.specs.Prelude.{◌≡◌, ℕ, ◌<◌, T, List, [], ◌∷◌, map, Some, None, Option, Float}
use Rattle.std.specs.Float.{nan, binary64}
use Rattle.std.specs.Float.Ieee.{fits}
use Rattle.std.specs.List.{AllByRecursion}
use Rattle.shapes.specs.declared.code.Code.{Code}
use Rattle.shapes.specs.declared.code.Dimension.{Dimension}
use Rattle.shapes.specs.declared.code.Dimension.TheVariants.{Xy, Xyz, Xym, Xyzm}
use Rattle.shapes.specs.declared.coord.Coord.{Coord}

-- a code and the coordinates still to come
pub record Shape : Type 0 where
  pub code : Code
  pub coords : List Coord

-- every ordinate is a value of binary64
abbrev pub InBinary64 : Coord → Type 0
InBinary64 c = T (fits binary64 c.x) × T (fits binary64 c.y) × T (fits binary64 c.z) × T (fits binary64 c.m)

-- What the answer r says of a source before and after: the first coordinate is given and dropped, or there is none and nothing is altered. A coordinate given lowers what `left` answers.
abbrev pub Gives : {S : Type 0} → (S → Shape) → (S → ℕ) → Option Coord → S → S → Type 0
Gives means room None a b = ((means a).coords ≡ []) × (b ≡ a)
Gives means room (Some x) a b = ((means a).coords ≡ x ∷ (means b).coords) × ((means b).code ≡ (means a).code) × (room b < room a) × InBinary64 x

-- an axis that the dimension lacks is NaN
abbrev pub Lacks : Dimension → Coord → Type 0
Lacks Xy c = (c.z ≡ nan) × (c.m ≡ nan)
Lacks Xyz c = c.m ≡ nan
Lacks Xym c = c.z ≡ nan
Lacks Xyzm c = Unit {0}

-- so it is in every coordinate to come
abbrev pub LacksAxes : Shape → Type 0
LacksAxes s = AllByRecursion (Lacks s.code.dim) s.coords

-- ---- the layer that exchanges x and y

abbrev pub exchange : Coord → Coord
exchange c = record { x = c.y; y = c.x; z = c.z; m = c.m; joins = c.joins }

abbrev pub exchanged : Shape → Shape
exchanged s = record { code = s.code; coords = map exchange s.coords }

-- ---- a table of coordinates

-- z and m, or NaN where the dimension lacks the axis
abbrev pub height_on : Dimension → Float → Float
height_on Xy z = nan
height_on Xyz z = z
height_on Xym z = nan
height_on Xyzm z = z

abbrev pub measure_on : Dimension → Float → Float
measure_on Xy m = nan
measure_on Xyz m = nan
measure_on Xym m = m
measure_on Xyzm m = m

abbrev pub on_axes : Dimension → Coord → Coord
on_axes d c = record { x = c.x; y = c.y; z = height_on d c.z; m = measure_on d c.m; joins = c.joins }

abbrev pub tabled : Code → List Coord → Shape
tabled c cs = record { code = c; coords = map (on_axes c.dim) cs }
