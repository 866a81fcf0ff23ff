-- What the calls answer.
use Rattle.std.specs.Prelude.{ℕ, [], ◌∷◌, Ok, Err, Result}
use Rattle.interval.specs.declared.fault.Fault.{Fault}
use Rattle.shapes.specs.Wkb.{Decoded, read, refused}
use Rattle.bounding.specs.declared.records.Answer.{Answer}
use Rattle.bounding.specs.Told.{Told}
use Rattle.bounding.specs.Walk.{answer}
use Rattle.book.specs.declared.states.Slip.{Slip}
use Rattle.book.specs.Standing.{Brought}

abbrev pub slip : ℕ → Slip
slip p = record { page = p }

-- open and retake hand out a slip for that page
abbrev pub given : {D : Type 0} → ℕ → Result D Fault → Result Slip Fault
given p (Ok d) = Ok (slip p)
given p (Err f) = Err f

abbrev pub added : {D : Type 0} → Result D Fault → Result (Unit {0}) Fault
added (Ok d) = Ok tt
added (Err f) = Err f

-- close and discard answer the page's number, or give the slip back with the refusal
abbrev pub returned : {D : Type 0} → ℕ → Result D Fault → Result ℕ (Fault × Slip)
returned p (Ok d) = Ok p
returned p (Err f) = Err (f, slip p)

-- the shape that bytes bring, or their fault
abbrev pub brought_by : Decoded → Brought
brought_by (refused f) = Err f
brought_by (read c cs) = Ok (record { code = c; coords = cs } ∷ [])

abbrev pub told_by : Result Answer Fault → Result Told Fault
told_by (Ok a) = Ok (answer a)
told_by (Err f) = Err f
