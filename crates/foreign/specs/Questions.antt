-- What a window that was handed asks, and the question that is put to pages.
use Rattle.std.specs.Prelude.{◌≡◌, ℕ, Bool, true, false, cond, Some, None, Ok, Err, Result, ◌==◌, nat_lt}
use Rattle.interval.specs.declared.fault.Fault.{Fault}
use Rattle.interval.specs.Pairs.{Pair, between, covered, ends, inner_ends}
use Rattle.book.specs.Windows.{Frame, Firm}
use Rattle.book.specs.Verdicts.{frame_of}
use Rattle.foreign.specs.declared.raw.RawWindow.{RawWindow}
use Rattle.foreign.specs.declared.refusals.Misuse.{Misuse}
use Rattle.foreign.specs.declared.refusals.Misuse.TheVariants.{Kind}
use Rattle.foreign.specs.declared.refusals.Refusal.TheVariants.{Refused, Misused}
use Rattle.foreign.specs.declared.question.Question.{Question}
use Rattle.foreign.specs.declared.windows.Asked.{Asked}
use Rattle.foreign.specs.declared.windows.EitherWindow.{EitherWindow}
use Rattle.foreign.specs.declared.windows.EitherWindow.TheVariants.{Ordinary, Wraparound}
use Rattle.foreign.specs.declared.windows.WindowKind.{WindowKind}
use Rattle.foreign.specs.declared.windows.WindowKind.TheVariants.{Ordinary as OrdinaryKind, Wraparound as WraparoundKind}
use Rattle.foreign.specs.Calls.{Alike, pairs_refusal, window_misuse}
use Rattle.foreign.specs.Values.{asked_if, asks_m, asks_z, frame, wraps}

-- ---- what is asked

abbrev pub kind_if : Bool → WindowKind
kind_if wrapping = cond wrapping WraparoundKind OrdinaryKind

-- the kind of a number
abbrev pub Kinds : ℕ → Result WindowKind Misuse → Type 0
Kinds n r = r ≡ cond (nat_lt 1 n) (Err Kind) (Ok (kind_if (n == 1)))

abbrev pub asked_in : RawWindow → Asked
asked_in w =
    record {
      kind = kind_if (wraps w);
      x = (w.x.lo, w.x.hi);
      y = (w.y.lo, w.y.hi);
      z = asked_if (asks_z w) w.z;
      m = asked_if (asks_m w) w.m;
    }

abbrev pub Asks : RawWindow → Result Asked Misuse → Type 0
Asks w (Ok a) = (window_misuse w ≡ None) × (a ≡ asked_in w)
Asks w (Err m) = window_misuse w ≡ Some (Misused m)

-- ---- the window

abbrev pub wrapping_in : EitherWindow → Bool
wrapping_in (Ordinary v) = false
wrapping_in (Wraparound v) = true

abbrev pub frame_in : EitherWindow → Frame
frame_in (Ordinary v) = frame_of (λ i. between (ends i)) v
frame_in (Wraparound v) = frame_of (λ i. covered (inner_ends i)) v

-- v is of w's kind and covers what w's pairs mean
pub record IsWindow (w : RawWindow) (v : EitherWindow) : Type 0 where
  pub kind : wrapping_in v ≡ wraps w
  pub firm : Firm (frame_in v)
  pub alike : Alike (frame_in v) (frame w)

-- a window that is made of the pairs, or why it is not
abbrev pub OpensEither : RawWindow → Result EitherWindow Fault → Type 0
OpensEither w (Ok v) = (pairs_refusal (wraps w) w ≡ None) × IsWindow w v
OpensEither w (Err f) = pairs_refusal (wraps w) w ≡ Some (Refused f)

-- q asks for w under the hint h
abbrev pub Poses : RawWindow → Pair → Question → Type 0
Poses w h q = (ends q.hint ≡ h) × IsWindow w q.window
