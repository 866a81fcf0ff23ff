-- What `WraparoundInterval` answers, on its two ends.
use Rattle.std.specs.Prelude.{Bool, true, false, cond, ◌&&◌, ◌||◌, Ok, Err, Result, is_nan, Float}
use Rattle.std.specs.Bool.{beq}
use Rattle.std.specs.Float.Ieee.{sub, eq, le, lt}
use Rattle.std.specs.Float.{float_min, float_max, float_with_sign, inf, binary64}
use Rattle.interval.specs.declared.fault.Cause.TheVariants.{Downward}
use Rattle.interval.specs.declared.fault.Fault.{Fault}
use Rattle.interval.specs.declared.kinds.Interval.{Interval}
use Rattle.interval.specs.declared.kinds.WraparoundInterval.{WraparoundInterval}
use Rattle.interval.specs.Faults.{at}
use Rattle.interval.specs.Pairs.{Pair, pair, inner_ends, nothing, everything, empty, wraps, covered, width as innerWidth}
use Rattle.interval.specs.Ordinary as Ordinary

-- the pair as an `Interval`, unless it wraps
abbrev pub unwrapped : WraparoundInterval → Result Interval Fault
unwrapped w = cond (wraps (inner_ends w)) (Err (at Downward 0)) (Ok w.inner)

-- the two ordinary parts of a pair: up to hi and from lo on, or else the pair itself and nothing
abbrev pub left : Pair → Pair
left p = cond (wraps p) (pair (inf true) p.hi) p

abbrev pub right : Pair → Pair
right p = cond (wraps p) (pair p.lo (inf false)) nothing

unfoldable pub meets : Pair → Pair → Bool
meets p q = Ordinary.meets (left p) (left q) || Ordinary.meets (left p) (right q) || Ordinary.meets (right p) (left q) || Ordinary.meets (right p) (right q)

-- A wrapping pair contains what lies on one of its sides, and the full interval a wrapping pair.
unfoldable pub contains : Pair → Pair → Bool
contains p q =
    cond (wraps p)
    (cond (wraps q) (Ordinary.contains p q) ((le (inf true) q.lo && le q.hi p.hi) || (le q.lo q.hi && le p.lo q.lo)))
    (cond (wraps q) (eq p.lo (inf true) && eq p.hi (inf false)) (Ordinary.contains p q))

unfoldable pub width : Pair → Float
width p = cond (wraps p) (inf false) (innerWidth p)

unfoldable pub middle : Pair → Float
middle p = cond (wraps p) (inf false) (Ordinary.middle p)

-- the values from lo on and those up to hi, which is every value where the two sides meet
unfoldable pub closed : Pair → Pair
closed p = cond (le p.lo p.hi) everything p

-- the size of a difference
abbrev pub distance : Float → Float → Float
distance x y = float_with_sign false (sub binary64 x y)

-- whether q, which does not wrap, covers a value of the lower side of p, which does, and of the upper
abbrev pub meets_lower : Pair → Pair → Bool
meets_lower p q = le q.lo q.hi && le q.lo p.hi

abbrev pub meets_upper : Pair → Pair → Bool
meets_upper p q = le q.lo q.hi && le p.lo q.hi

-- q widens the one side of p that it meets, or else the one nearer to its middle
unfoldable pub widens_lower : Pair → Pair → Bool
widens_lower p q =
    cond (beq (meets_lower p q) (meets_upper p q)) (lt (distance (Ordinary.middle q) p.hi) (distance (Ordinary.middle q) p.lo)) (meets_lower p q)

unfoldable pub widened : Pair → Pair → Pair
widened p q = closed (cond (widens_lower p q) (pair p.lo (float_max p.hi q.hi)) (pair (float_min p.lo q.lo) p.hi))

unfoldable pub merged : Pair → Pair → Pair
merged p q =
    cond (empty p) q (cond (empty q) p
    (cond (wraps p) (cond (wraps q) (closed (Ordinary.merged p q)) (widened p q)) (cond (wraps q) (widened q p) (Ordinary.merged p q))))

-- a value outside moves the nearer end to it
unfoldable pub with_value : Pair → Float → Pair
with_value p v =
    cond (covered p v || is_nan v) p
    (cond (wraps p) (cond (lt (sub binary64 v p.hi) (sub binary64 p.lo v)) (pair p.lo v) (pair v p.hi)) (Ordinary.with_value p v))

unfoldable pub expanded : Pair → Float → Pair
expanded p d = cond (Ordinary.unmoved p d) p (cond (wraps p) (closed (Ordinary.moved p d)) (Ordinary.moved p d))
