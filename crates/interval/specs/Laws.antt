-- The laws of a kind of bounds, over the values that it covers.
use Rattle.std.specs.Prelude.{◌≡◌, Bool, true, false, cond, not, ◌&&◌, ◌||◌, T, Some, None, Ok, Err, Option, Result, is_nan, Float}
use Rattle.std.specs.Float.Ieee.{le, lt}
use Rattle.std.specs.Float.{float_is_finite}
use Rattle.number.specs.Values.{Value}
use Rattle.interval.specs.declared.fault.Cause.TheVariants.{NanEnd, Downward}
use Rattle.interval.specs.declared.fault.Fault.{Fault}
use Rattle.interval.specs.Faults.{at}
use Rattle.interval.specs.Pairs.{Pair, pair, between, stored, empty}

-- a set of values, by its test
abbrev pub Set : Type 0
Set = Float → Bool

abbrev pub Inside : Set → Set → Type 0
Inside s t = (v : Float) → Value v → T (s v) → T (t v)

abbrev pub Equal : Set → Set → Type 0
Equal s t = (v : Float) → Value v → s v ≡ t v

abbrev pub Inhabited : Set → Type 0
Inhabited s = (v : Float) × Value v × T (s v)

abbrev pub Common : Set → Set → Type 0
Common s t = (v : Float) × Value v × T (s v) × T (t v)

-- `empty` covers nothing, and `full` everything
abbrev pub Nothing : Set → Type 0
Nothing s = Equal s (λ _. false)

abbrev pub Everything : Set → Type 0
Everything s = Equal s (λ _. true)

-- `new` of lo ≤ hi covers the values from lo to hi only
abbrev pub Spans : Float → Float → Set → Type 0
Spans lo hi s = T (le lo hi) → Equal s (between (pair lo hi))

-- The first cause to refuse a stored pair: a NaN end, then a downward pair that the kind cannot hold.
abbrev pub refusal : Bool → Pair → Option Fault
refusal wrapping p =
    cond (is_nan p.lo) (Some (at NanEnd 0)) (cond (is_nan p.hi) (Some (at NanEnd 1))
    (cond (lt p.hi p.lo && (not wrapping || empty p)) (Some (at Downward 0)) None))

-- `take` refuses just so, and otherwise covers what Parquet gives the pair
abbrev pub Taken : {K : Type 0} → Bool → (K → Set) → Pair → Result K Fault → Type 0
Taken wrapping covers p (Ok k) = (refusal wrapping p ≡ None) × Equal (covers k) (stored p)
Taken wrapping covers p (Err e) = refusal wrapping p ≡ Some e

-- `intersects_interval` says yes wherever a value is common, and, if both sets have a value, only there
pub record Meets (s t : Set) (r : Bool) : Type 0 where
  pub always : Common s t → T r
  pub only : T r → Inhabited s → Inhabited t → Common s t

-- `contains_interval` says yes only if every value of the other is covered
abbrev pub Contains : Set → Set → Bool → Type 0
Contains s t r = T r → Inside t s

-- `merge_interval` covers the values of both
pub record Merges (s t r : Set) : Type 0 where
  pub mine : Inside s r
  pub yours : Inside t r

-- `merge_value` covers the old values and the new one
pub record Adds (s : Set) (v : Float) (r : Set) : Type 0 where
  pub old : Inside s r
  pub new : Value v → T (r v)

-- `expand_by` a finite distance loses no value
abbrev pub Expands : Set → Float → Set → Type 0
Expands s d r = T (float_is_finite d) → Inside s r
