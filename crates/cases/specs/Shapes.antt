-- Worked cases of bytes.
use Rattle.std.specs.Prelude.{ℕ, false, List, [], ◌∷◌, take, replicate}
use Rattle.std.specs.Float.{nan}
use Rattle.interval.specs.declared.fault.Cause.TheVariants.{Truncated, TrailingBytes}
use Rattle.interval.specs.Faults.{at}
use Rattle.shapes.specs.declared.code.Dimension.TheVariants.{Xy}
use Rattle.shapes.specs.declared.code.Kind.TheVariants.{Point}
use Rattle.shapes.specs.declared.endian.Endian.TheVariants.{Big, Little}
use Rattle.shapes.specs.Tree.{Tree, points, point, group, none, more, written}
use Rattle.shapes.specs.Wkb.{refused, read, decode}
use Rattle.cases.specs.Case.{Case, case, decoded, bytes, plus}

-- a little-endian xy point at (0, 0), with more zeros than it needs
abbrev zeros : List ℕ
zeros = 1 ∷ 1 ∷ 0 ∷ 0 ∷ 0 ∷ replicate 40 0

-- a little-endian line that says it has 2 ^ 32 - 1 points, and has one and a half
abbrev cut_line : List ℕ
cut_line = 1 ∷ 2 ∷ 0 ∷ 0 ∷ 0 ∷ 255 ∷ 255 ∷ 255 ∷ 255 ∷ replicate 23 0

-- two points in a big-endian multipoint: (1, 2), itself little-endian, and (2, 1)
abbrev two_points : Tree
two_points = group Big points (more (point Little (0x3ff0000000000000 ∷ 0x4000000000000000 ∷ [])) (more (point Big (0x4000000000000000 ∷ 0x3ff0000000000000 ∷ [])) none))

abbrev pub shapes : List Case
shapes =
    case (decoded (decode [])) (decoded (refused (at Truncated 0)))
    ∷ case (decoded (decode (take 20 zeros))) (decoded (refused (at Truncated 13)))
    ∷ case (decoded (decode (take 21 zeros))) (decoded (read (record { kind = Point; dim = Xy }) (record { x = plus 0; y = plus 0; z = nan; m = nan; joins = false } ∷ [])))
    ∷ case (decoded (decode (take 22 zeros))) (decoded (refused (at TrailingBytes 21)))
    ∷ case (decoded (decode cut_line)) (decoded (refused (at Truncated 25)))
    ∷ case (bytes (written Xy two_points))
    (bytes (0 ∷ 0 ∷ 0 ∷ 0 ∷ 4 ∷ 0 ∷ 0 ∷ 0 ∷ 2
    ∷ 1 ∷ 1 ∷ 0 ∷ 0 ∷ 0 ∷ 0 ∷ 0 ∷ 0 ∷ 0 ∷ 0 ∷ 0 ∷ 0xf0 ∷ 0x3f ∷ 0 ∷ 0 ∷ 0 ∷ 0 ∷ 0 ∷ 0 ∷ 0 ∷ 0x40
    ∷ 0 ∷ 0 ∷ 0 ∷ 0 ∷ 1 ∷ 0x40 ∷ 0 ∷ 0 ∷ 0 ∷ 0 ∷ 0 ∷ 0 ∷ 0 ∷ 0x3f ∷ 0xf0 ∷ 0 ∷ 0 ∷ 0 ∷ 0 ∷ 0 ∷ 0 ∷ []))
    ∷ []
