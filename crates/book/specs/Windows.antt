-- Windows, by the values that they cover, and what meets them.
use Rattle.std.specs.Prelude.{◌≡◌, Bool, Some, None, Ok, Err, Option, Result}
use Rattle.interval.specs.declared.fault.Fault.{Fault}
use Rattle.interval.specs.declared.kinds.Interval.{Interval}
use Rattle.interval.specs.Faults.{on_page}
use Rattle.interval.specs.Laws.{Set, Inhabited, Common, refusal}
use Rattle.interval.specs.Pairs.{Pair, ends, between, stored}
use Rattle.bounding.specs.Runs.{Run, Axis, hull, xs, ys, zs, ms}
use Rattle.bounding.specs.Told.{Told}
use Rattle.book.specs.declared.states.Target.{Target}
use Rattle.book.specs.declared.states.Target.TheVariants.{Page, Column}
use Rattle.book.specs.declared.states.Verdict.{Verdict}
use Rattle.book.specs.declared.states.Verdict.TheVariants.{Skip, Keep}

-- what a window covers on each axis; z and m only where they are asked for
pub record Frame : Type 0 where
  pub x : Set
  pub y : Set
  pub z : Option Set
  pub m : Option Set

abbrev pub IfAsked : (Set → Type 0) → Option Set → Type 0
IfAsked P None = Unit {0}
IfAsked P (Some s) = P s

-- A run meets a window when, on each axis asked for, some value of its hull is covered.
abbrev pub HullMeets : Axis → Run → Set → Type 0
HullMeets f r s = Common (between (hull f r)) s

pub record RunMeets (w : Frame) (r : Run) : Type 0 where
  pub x : HullMeets xs r w.x
  pub y : HullMeets ys r w.y
  pub z : IfAsked (HullMeets zs r) w.z
  pub m : IfAsked (HullMeets ms r) w.m

-- What is told shares a value with the window on each axis asked for. An axis without values shares none.
abbrev pub Shares : Option Pair → Set → Type 0
Shares None s = ⊥
Shares (Some e) s = Common (stored e) s

pub record SharesAll (t : Told) (w : Frame) : Type 0 where
  pub x : Shares t.x w.x
  pub y : Shares t.y w.y
  pub z : IfAsked (Shares t.z) w.z
  pub m : IfAsked (Shares t.m) w.m

-- each of the window's bounds covers some value, as those made by `take` do
pub record Firm (w : Frame) : Type 0 where
  pub x : Inhabited w.x
  pub y : Inhabited w.y
  pub z : IfAsked Inhabited w.z
  pub m : IfAsked Inhabited w.m

-- ---- the verdict

-- skip where some axis asked for shares no value, and else keep
abbrev pub Decides : Frame → Told → Verdict → Type 0
Decides w t Skip = SharesAll t w → ⊥
Decides w t Keep = Firm w → SharesAll t w

-- a refusal met on a page has the page added
abbrev pub placed : Target → Fault → Fault
placed (Page n) f = on_page f n
placed Column f = f

abbrev pub Tested : Frame → Target → Told → Option Fault → Result Verdict Fault → Type 0
Tested w g t (Some f) r = r ≡ Err (placed g f)
Tested w g t None r = (v : Verdict) × (r ≡ Ok v) × Decides w t v

-- skip where x has no values; then the refusal of an x pair that the kind cannot take; then the verdict
abbrev pub TestedX : Bool → Frame → Target → Told → Option Pair → Result Verdict Fault → Type 0
TestedX wrapping w g t None r = r ≡ Ok Skip
TestedX wrapping w g t (Some e) r = Tested w g t (refusal wrapping e) r

-- what sift answers, from what is told of the target
abbrev pub Sifted : Bool → Frame → Target → Result Told Fault → Result Verdict Fault → Type 0
Sifted wrapping w g (Err f) r = r ≡ Err f
Sifted wrapping w g (Ok t) r = TestedX wrapping w g t t.x r

-- ---- the program's windows

abbrev pub set : Interval → Set
set i = between (ends i)

abbrev pub optional_set : Option Interval → Option Set
optional_set None = None
optional_set (Some i) = Some (set i)
