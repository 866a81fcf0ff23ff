-- How answered commands are counted, up to the largest number of 64 bits.
use Rattle.std.specs.Prelude.{◌≡◌, ℕ, ◌+◌, ◌-◌, ◌^◌, min, Some, None, Ok, Err, Option, Result}
use Rattle.script.specs.declared.session.Tally.{Tally}
use Rattle.script.specs.declared.refusal.NotGranted.{NotGranted}
use Rattle.script.specs.declared.refusal.NotGranted.TheVariants.{Refused, Wrong}

abbrev next : ℕ → ℕ
next n = min (n + 1) (2 ^ 64 - 1)

-- one more of the granted or of the refused, and a line that is wrong is not counted
abbrev pub counted : {A : Type 0} → Tally → Result A NotGranted → Tally
counted t (Ok a) = record { granted = next t.granted; refused = t.refused }
counted t (Err (Refused r)) = record { granted = t.granted; refused = next t.refused }
counted t (Err (Wrong w)) = t

-- a command that was answered is counted, and nothing else is
abbrev pub Tallied : {A : Type 0} → Tally → Result (Option A) NotGranted → Tally → Type 0
Tallied t (Ok None) t' = t' ≡ t
Tallied t (Ok (Some a)) t' = t' ≡ counted t (Ok a)
Tallied {A} t (Err n) t' = t' ≡ counted {A = A} t (Err n)
