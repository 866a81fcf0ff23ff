-- What the parts of a verdict answer, and the program's windows as frames.
use Rattle.std.specs.Prelude.{◌≡◌, Bool, true, false, T, Some, None, Ok, Err, Option, Result, Float}
use Rattle.std.specs.Float.Ieee.{le}
use Rattle.interval.specs.declared.fault.Fault.{Fault}
use Rattle.interval.specs.declared.kinds.Interval.{Interval}
use Rattle.interval.specs.Laws.{Set, Inhabited, Common, Equal, refusal}
use Rattle.interval.specs.Pairs.{Pair, pair, ends, stored}
use Rattle.bounding.specs.Told.{Told}
use Rattle.bounding.specs.Walk.{optional}
use Rattle.book.specs.declared.frame.Window.{Window}
use Rattle.book.specs.Standing.{first}
use Rattle.book.specs.Windows.{Frame, Firm, set, optional_set}

abbrev pub frame_of : {K : Type 0} → (K → Set) → Window K → Frame
frame_of covers w = record { x = covers w.x; y = set w.y; z = optional_set w.z; m = optional_set w.m }

-- what is told of y, z and m goes up
abbrev pub UprightIf : Option Pair → Type 0
UprightIf None = Unit {0}
UprightIf (Some e) = T (le e.lo e.hi)

pub record Upright (t : Told) : Type 0 where
  pub y : UprightIf t.y
  pub z : UprightIf t.z
  pub m : UprightIf t.m

-- r says whether what is told of an axis, if it goes up, shares a value with the set
abbrev pub SharesIf : Option Pair → Set → Bool → Type 0
SharesIf None s r = r ≡ false
SharesIf (Some e) s r = T (le e.lo e.hi) → (T r → Inhabited s → Common (stored e) s) × (Common (stored e) s → T r)

-- yes where the axis is not asked for
abbrev pub AskedIf : Option Pair → Option Set → Bool → Type 0
AskedIf o None r = r ≡ true
AskedIf o (Some s) r = SharesIf o s r

-- ---- making a window

abbrev pub pair_of : Float × Float → Pair
pair_of p = pair p.0 p.1

abbrev pub refused_if : Option (Float × Float) → Option Fault
refused_if None = None
refused_if (Some p) = refusal false (pair_of p)

abbrev pub optional_pair : Option (Float × Float) → Option Pair
optional_pair None = None
optional_pair (Some p) = Some (pair_of p)

abbrev pub TakenIf : Option (Float × Float) → Result (Option Interval) Fault → Type 0
TakenIf o (Ok i) = (refused_if o ≡ None) × (optional i ≡ optional_pair o)
TakenIf o (Err f) = refused_if o ≡ Some f

-- the pairs of x, y, z and m are taken in this order
abbrev pub window_refusal : Bool → Float × Float → Float × Float → Option (Float × Float) → Option (Float × Float) → Option Fault
window_refusal wrapping x y z m = first (refusal wrapping (pair_of x)) (first (refusal false (pair_of y)) (first (refused_if z) (refused_if m)))

-- A window that is made covers what the pairs mean, and each of its bounds covers some value.
pub record Framed {K : Type 0} (covers : K → Set) (x y : Float × Float) (z m : Option (Float × Float)) (w : Window K) : Type 0 where
  pub x_set : Equal (covers w.x) (stored (pair_of x))
  pub y_ends : ends w.y ≡ pair_of y
  pub z_ends : optional w.z ≡ optional_pair z
  pub m_ends : optional w.m ≡ optional_pair m
  pub firm : Firm (frame_of covers w)

abbrev pub Opened : {K : Type 0} → Bool → (K → Set) → Float × Float → Float × Float → Option (Float × Float) → Option (Float × Float) → Result (Window K) Fault → Type 0
Opened wrapping covers x y z m (Ok w) = (window_refusal wrapping x y z m ≡ None) × Framed covers x y z m w
Opened wrapping covers x y z m (Err f) = window_refusal wrapping x y z m ≡ Some f
