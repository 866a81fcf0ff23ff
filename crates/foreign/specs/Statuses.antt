-- The statuses that the exported calls return, and what they write into the fault.
use Rattle.std.specs.Prelude.{◌≡◌, ℤ, pos, negsuc, Some, None, Ok, Err, Option, Result, MatchResult}
use Rattle.interval.specs.declared.fault.Fault.{Fault}
use Rattle.interval.specs.Faults.{number, layer, layer_number}
use Rattle.foreign.specs.declared.raw.RawFault.{RawFault}
use Rattle.foreign.specs.declared.refusals.Misuse.{Misuse}
use Rattle.foreign.specs.declared.refusals.Misuse.TheVariants.{Kind, Asked, Length, Record}
use Rattle.foreign.specs.declared.refusals.Refusal.{Refusal}
use Rattle.foreign.specs.declared.refusals.Refusal.TheVariants.{Refused, Misused}

-- −1 to −4
abbrev pub misuse : Misuse → ℤ
misuse Kind = negsuc 0
misuse Asked = negsuc 1
misuse Length = negsuc 2
misuse Record = negsuc 3

abbrev pub fault_of : Fault → RawFault
fault_of f = record { number = number f.cause; layer = layer_number (layer f.cause); place = f.place }

-- what a call returns, given why it was refused, if it was
abbrev pub status_of : Refusal → ℤ
status_of (Refused f) = pos (number f.cause)
status_of (Misused m) = misuse m

abbrev pub returned : Option Refusal → ℤ
returned None = pos 0
returned (Some e) = status_of e

-- what the fault holds then: the library's refusal, or else what it held before
abbrev pub fault_after : Option Refusal → RawFault → RawFault
fault_after None f = f
fault_after (Some (Refused e)) f = fault_of e
fault_after (Some (Misused m)) f = f

abbrev pub Answers : Option Refusal → RawFault → ℤ → RawFault → Type 0
Answers o f r g = (r ≡ returned o) × (g ≡ fault_after o f)

abbrev pub refusal_of : Result (Unit {0}) Refusal → Option Refusal
refusal_of (Ok _) = None
refusal_of (Err e) = Some e

-- an answer that is granted where o is no refusal, and else is o
abbrev pub Does : {A : Type 0} → Option Refusal → (A → Type 0) → Result A Refusal → Type 0
Does o granted r = MatchResult r (λ a. (o ≡ None) × granted a) (λ e. o ≡ Some e)

-- a call does its work where it is granted, and else leaves what it was handed
abbrev pub Unless : Option Refusal → Type 0 → Type 0 → Type 0
Unless None done left = done
Unless (Some e) done left = left
