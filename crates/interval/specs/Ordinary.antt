-- What `Interval` answers, on its two ends.
use Rattle.std.specs.Prelude.{Bool, false, cond, ◌&&◌, ◌||◌, pos, is_nan, Float}
use Rattle.std.specs.Float.Ieee.{add, sub, div, eq, le, lt}
use Rattle.std.specs.Float.{float_zero, float_is_finite, float_min, float_max, inf, fin, binary64}
use Rattle.interval.specs.Pairs.{Pair, pair, width, empty}

abbrev pub meets : Pair → Pair → Bool
meets p q = le p.lo q.hi && le q.lo p.hi

abbrev pub contains : Pair → Pair → Bool
contains p q = le p.lo q.lo && le q.hi p.hi

-- x / 2
abbrev pub half : Float → Float
half x = div binary64 x (fin false 1 (pos 1))

-- finite ends whose width is too large for an f64
abbrev pub too_wide : Pair → Bool
too_wide p = float_is_finite p.lo && float_is_finite p.hi && eq (width p) (inf false)

unfoldable pub middle : Pair → Float
middle p = cond (too_wide p) (add binary64 (half p.lo) (half p.hi)) (add binary64 p.lo (half (width p)))

-- NaN ends are ignored where the other pair has a number
abbrev pub merged : Pair → Pair → Pair
merged p q = pair (float_min p.lo q.lo) (float_max p.hi q.hi)

abbrev pub with_value : Pair → Float → Pair
with_value p v = merged p (pair v v)

-- what a distance does not move: an empty pair, and any pair by a NaN or a negative distance
abbrev pub unmoved : Pair → Float → Bool
unmoved p d = empty p || is_nan d || lt d float_zero

abbrev pub moved : Pair → Float → Pair
moved p d = pair (sub binary64 p.lo d) (add binary64 p.hi d)

unfoldable pub expanded : Pair → Float → Pair
expanded p d = cond (unmoved p d) p (moved p d)
