-- A pair of ends, and the values that it covers.
use Rattle.std.specs.Prelude.{Bool, true, false, cond, not, ◌&&◌, ◌||◌, Float}
use Rattle.std.specs.Float.Ieee.{sub, eq, le, lt}
use Rattle.std.specs.Float.{float_zero, inf, binary64}
use Rattle.number.specs.Values.{same as sameNumber}
use Rattle.interval.specs.declared.kinds.Interval.{Interval}
use Rattle.interval.specs.declared.kinds.WraparoundInterval.{WraparoundInterval}

pub record Pair : Type 0 where
  pub lo : Float
  pub hi : Float

abbrev pub pair : Float → Float → Pair
pair l h = record { lo = l; hi = h }

abbrev pub ends : Interval → Pair
ends i = pair i.lo i.hi

abbrev pub inner_ends : WraparoundInterval → Pair
inner_ends w = ends w.inner

-- the values from lo to hi
abbrev pub between : Pair → Float → Bool
between p v = le p.lo v && le v p.hi

-- the values from lo on, and those up to hi
abbrev pub sides : Pair → Float → Bool
sides p v = le p.lo v || le v p.hi

-- what Parquet gives a stored pair of numbers
abbrev pub stored : Pair → Float → Bool
stored p v = cond (le p.lo p.hi) (between p v) (sides p v)

-- rounded once
unfoldable pub width : Pair → Float
width p = sub binary64 p.hi p.lo

unfoldable pub empty : Pair → Bool
empty p = eq (width p) (inf true)

unfoldable pub wraps : Pair → Bool
wraps p = not (empty p) && lt (width p) float_zero

-- what a kind that can wrap gives a pair
unfoldable pub covered : Pair → Float → Bool
covered p v = cond (wraps p) (sides p v) (between p v)

abbrev pub nothing : Pair
nothing = pair (inf false) (inf true)

abbrev pub everything : Pair
everything = pair (inf true) (inf false)

-- equal bounds: each end is the same number as its fellow, or both are NaN
abbrev pub same : Pair → Pair → Bool
same p q = sameNumber p.lo q.lo && sameNumber p.hi q.hi
