-- Why the exported calls are refused, and what they do where they are granted.
use Rattle.std.specs.Prelude.{◌≡◌, ℕ, ◌<◌, Bool, cond, ◌⊎◌, List, [], ◌∷◌, ◌++◌, length, Some, None, Ok, Err, Option, Result, ◌==◌, nat_lt, slice_index, slice_index_or}
use mathlib.Core.List.{Memᴰ}
use Rattle.interval.specs.declared.fault.Fault.{Fault}
use Rattle.interval.specs.Pairs.{Pair}
use Rattle.interval.specs.Laws.{Equal, refusal}
use Rattle.shapes.specs.Source.{Shape}
use Rattle.shapes.specs.Wkb.{Decoded, refused, read}
use Rattle.bounding.specs.Runs.{Run, runs_of}
use Rattle.bounding.specs.Record.{record_of}
use Rattle.bounding.specs.Told.{Told, told}
use Rattle.bounding.specs.Laws.{HeldShapes}
use Rattle.bounding.specs.Walk.{kept}
use Rattle.bounding.specs.declared.records.PageRecord.{PageRecord}
use Rattle.book.specs.declared.states.Verdict.{Verdict}
use Rattle.book.specs.declared.states.Verdict.TheVariants.{Skip, Keep}
use Rattle.book.specs.Windows.{Frame, RunMeets, SharesAll}
use Rattle.book.specs.Verdicts.{window_refusal}
use Rattle.foreign.specs.declared.raw.RawRecord.{RawRecord}
use Rattle.foreign.specs.declared.raw.RawWindow.{RawWindow}
use Rattle.foreign.specs.declared.refusals.Misuse.{Misuse}
use Rattle.foreign.specs.declared.refusals.Misuse.TheVariants.{Kind, Asked, Length, Record}
use Rattle.foreign.specs.declared.refusals.Refusal.{Refusal}
use Rattle.foreign.specs.declared.refusals.Refusal.TheVariants.{Refused, Misused}
use Rattle.foreign.specs.Values.{kept_in, raw_record, usable, wraps, asks_z, asks_m, asked_if}

-- the first of two refusals that applies
abbrev pub before : Option Refusal → Option Refusal → Option Refusal
before (Some e) later = Some e
before None later = later

abbrev pub by_fault : Option Fault → Option Refusal
by_fault None = None
by_fault (Some f) = Some (Refused f)

-- ---- bytes

abbrev pub byte_refusal : Decoded → Option Refusal
byte_refusal (refused f) = Some (Refused f)
byte_refusal (read c cs) = None

-- the shape that bytes hold, if they do
abbrev pub shapes_in : Decoded → List Shape
shapes_in (refused f) = []
shapes_in (read c cs) = record { code = c; coords = cs } ∷ []

-- ---- records

abbrev pub record_refusal : RawRecord → Option Refusal
record_refusal r = cond (usable (kept_in r)) None (Some (Misused Record))

-- the record that was handed, or why no bounder keeps it
abbrev pub Takes : RawRecord → Result PageRecord Misuse → Type 0
Takes r (Ok p) = (record_refusal r ≡ None) × (kept p ≡ kept_in r)
Takes r (Err m) = record_refusal r ≡ Some (Misused m)

-- r holds the record of any shapes under the hint h; then s holds that of the same and one more
abbrev pub Grown : Pair → Decoded → RawRecord → RawRecord → Type 0
Grown h d r s = (ss : List Shape) → kept_in r ≡ record_of h ss → s ≡ raw_record (record_of h (ss ++ shapes_in d))

-- ---- windows

abbrev pub window_misuse : RawWindow → Option Refusal
window_misuse w = cond (nat_lt 1 w.kind) (Some (Misused Kind)) (cond (nat_lt 3 w.asked) (Some (Misused Asked)) None)

-- as `Window::new` refuses the pairs
abbrev pub pairs_refusal : Bool → RawWindow → Option Refusal
pairs_refusal wrapping w = by_fault (window_refusal wrapping (w.x.lo, w.x.hi) (w.y.lo, w.y.hi) (asked_if (asks_z w) w.z) (asked_if (asks_m w) w.m))

-- an x pair that the window's kind cannot take
abbrev pub x_refusal : Bool → Option Pair → Option Refusal
x_refusal wrapping None = None
x_refusal wrapping (Some e) = by_fault (refusal wrapping e)

-- why there is no verdict on a record
abbrev pub page_refusal : Bool → Pair → RawRecord → Option Refusal
page_refusal wrapping h r = before (record_refusal r) (x_refusal wrapping (told h (kept_in r)).x)

abbrev pub verdict_refusal : RawWindow → Pair → RawRecord → Option Refusal
verdict_refusal w h r = before (window_misuse w) (before (pairs_refusal (wraps w) w) (page_refusal (wraps w) h r))

-- n records and k verdicts
abbrev pub verdicts_refusal : RawWindow → ℕ → ℕ → Option Refusal
verdicts_refusal w n k = before (window_misuse w) (before (cond (n == k) None (Some (Misused Length))) (pairs_refusal (wraps w) w))

abbrev pub byte_of : Verdict → ℕ
byte_of Skip = 0
byte_of Keep = 1

-- 0 where what is told shares no value with the window on some axis asked for, and else 1
abbrev pub Rules : Frame → Told → ℕ → Type 0
Rules w t b = ((b ≡ 0) × (SharesAll t w → ⊥)) ⊎ ((b ≡ 1) × SharesAll t w)

-- 2 where the kind cannot take the page's x pair, 3 where no bounder keeps such a record
abbrev pub ByteOr : Option Refusal → Type 0 → ℕ → Type 0
ByteOr None rule b = rule
ByteOr (Some (Refused f)) rule b = b ≡ 2
ByteOr (Some (Misused m)) rule b = b ≡ 3

abbrev pub PageByte : Bool → Frame → Pair → RawRecord → ℕ → Type 0
PageByte wrapping w h r b = ByteOr (page_refusal wrapping h r) (Rules w (told h (kept_in r)) b) b

-- a byte for each record
abbrev pub PageBytes : Bool → Frame → Pair → List RawRecord → List ℕ → Type 0
PageBytes wrapping w h rs bs = (k : ℕ) (d : RawRecord) → k < length rs → PageByte wrapping w h (slice_index_or rs k d) (slice_index bs k)

-- two windows that cover the same values
pub record Alike (v w : Frame) : Type 0 where
  pub x : Equal v.x w.x
  pub y : v.y ≡ w.y
  pub z : v.z ≡ w.z
  pub m : v.m ≡ w.m

-- no run of shapes that r is the record of meets the window
abbrev pub NoneMeets : Frame → Pair → RawRecord → Type 0
NoneMeets w h r = (ss : List Shape) → HeldShapes ss → kept_in r ≡ record_of h ss → (q : Run) → Memᴰ q (runs_of ss) → RunMeets w q → ⊥

-- where a byte is 0, no run of its page meets the window
abbrev pub SkipsSoundly : Frame → Pair → List RawRecord → List ℕ → Type 0
SkipsSoundly w h rs bs = (k : ℕ) (d : RawRecord) → k < length rs → slice_index bs k ≡ 0 → NoneMeets w h (slice_index_or rs k d)
