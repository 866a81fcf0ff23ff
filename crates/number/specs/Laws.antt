-- What is proved once, for every crate above, of the order and the rounding of f64.
use Rattle.std.specs.Prelude.{◌≡◌, true, false, not, ◌&&◌, ◌||◌, T, is_nan, Float}
use Rattle.std.specs.Float.Ieee.{add, sub, eq, le, lt}
use Rattle.std.specs.Float.{float_zero, float_is_finite, float_min, float_max, inf, binary64}
use Rattle.number.specs.Values.{Held, Value, Same}

-- The values are in a total order, from the lower infinity to the upper, and a NaN compares with nothing.
pub record Ordered : Type 0 where
  pub total : (x y : Float) → Value x → Value y → T (le x y || le y x)
  pub transitive : (x y z : Float) → Held x → Held y → Held z → T (le x y) → T (le y z) → T (le x z)
  pub strict : (x y : Float) → Held x → Held y → lt x y ≡ (le x y && not (eq x y))
  pub equal : (x y : Float) → Held x → Held y → eq x y ≡ (le x y && le y x)
  pub lowest : (x : Float) → Held x → le (inf true) x ≡ not (is_nan x)
  pub highest : (x : Float) → Held x → le x (inf false) ≡ not (is_nan x)

-- Being the same number is an equivalence that comparisons, sums and differences respect.
pub record Alike : Type 0 where
  pub reflexive : (x : Float) → Held x → Same x x
  pub symmetric : (x y : Float) → Held x → Held y → Same x y → Same y x
  pub transitive : (x y z : Float) → Held x → Held y → Held z → Same x y → Same y z → Same x z
  pub le_same : (x y a b : Float) → Held x → Held y → Held a → Held b → Same x a → Same y b → le x y ≡ le a b
  pub lt_same : (x y a b : Float) → Held x → Held y → Held a → Held b → Same x a → Same y b → lt x y ≡ lt a b
  pub add_same : (x y a b : Float) → Held x → Held y → Held a → Held b → Same x a → Same y b → Same (add binary64 x y) (add binary64 a b)
  pub sub_same : (x y a b : Float) → Held x → Held y → Held a → Held b → Same x a → Same y b → Same (sub binary64 x y) (sub binary64 a b)

-- The smaller of two, that ignores a NaN: whatever the order and the number of times.
pub record Smallest : Type 0 where
  pub bounds : (x y z : Float) → Held x → Held y → Held z → le (float_min x y) z ≡ (le x z || le y z)
  pub commutes : (x y : Float) → Held x → Held y → Same (float_min x y) (float_min y x)
  pub associates : (x y z : Float) → Held x → Held y → Held z → Same (float_min (float_min x y) z) (float_min x (float_min y z))
  pub idempotent : (x : Float) → float_min x x ≡ x
  pub ignores : (x y : Float) → Held x → Held y → is_nan (float_min x y) ≡ (is_nan x && is_nan y)

-- The larger of two likewise.
pub record Largest : Type 0 where
  pub bounds : (x y z : Float) → Held x → Held y → Held z → le z (float_max x y) ≡ (le z x || le z y)
  pub commutes : (x y : Float) → Held x → Held y → Same (float_max x y) (float_max y x)
  pub associates : (x y z : Float) → Held x → Held y → Held z → Same (float_max (float_max x y) z) (float_max x (float_max y z))
  pub idempotent : (x : Float) → float_max x x ≡ x
  pub ignores : (x y : Float) → Held x → Held y → is_nan (float_max x y) ≡ (is_nan x && is_nan y)

-- Sums and differences, rounded once, keep the order. A difference has the sign of the comparison.
pub record Rounded : Type 0 where
  pub add_mono : (x y a b : Float) → Held x → Held y → Held a → Held b → T (le x a) → T (le y b)
      → T (not (is_nan (add binary64 x y))) → T (not (is_nan (add binary64 a b))) → T (le (add binary64 x y) (add binary64 a b))
  pub sub_mono : (x y a b : Float) → Held x → Held y → Held a → Held b → T (le x a) → T (le b y)
      → T (not (is_nan (sub binary64 x y))) → T (not (is_nan (sub binary64 a b))) → T (le (sub binary64 x y) (sub binary64 a b))
  pub moves_up : (x d : Float) → Value x → Held d → T (float_is_finite d) → T (le float_zero d) → T (le x (add binary64 x d))
  pub moves_down : (x d : Float) → Value x → Held d → T (float_is_finite d) → T (le float_zero d) → T (le (sub binary64 x d) x)
  pub sign : (x y : Float) → Held x → Held y → lt (sub binary64 x y) float_zero ≡ lt x y
  pub nan : (x y : Float) → Held x → Held y → is_nan (sub binary64 x y) ≡ (is_nan x || is_nan y || (eq x y && not (float_is_finite x)))

-- When a difference is the lower infinity: x lies below y, and an end is infinite or the gap is too wide.
-- A gap that was not too wide is not once it is narrower.
pub record Lowest : Type 0 where
  pub below : (x y : Float) → Held x → Held y → T (eq (sub binary64 x y) (inf true)) → T (lt x y)
  pub infinite : (x y : Float) → Held x → Held y → T (lt x y) → T (not (float_is_finite x && float_is_finite y)) → T (eq (sub binary64 x y) (inf true))
  pub narrower : (x y a b : Float) → Held x → Held y → Held a → Held b → T (le x a) → T (le b y) → T (lt a b)
      → T (not (eq (sub binary64 x y) (inf true))) → T (not (eq (sub binary64 a b) (inf true)))
