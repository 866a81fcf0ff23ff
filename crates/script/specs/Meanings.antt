-- What a source that a script gives means, and what is answered of it.
use Rattle.std.specs.Prelude.{◌≡◌, ℕ, List, map, Some, None, Ok, Err, vec_items, Option, Result}
use Rattle.interval.specs.Faults.{at}
use Rattle.interval.specs.Pairs.{Pair, pair}
use Rattle.interval.specs.declared.fault.Cause.TheVariants.{TableCode}
use Rattle.interval.specs.declared.fault.Fault.{Fault}
use Rattle.shapes.specs.Codes.{code_of}
use Rattle.shapes.specs.Source.{exchange, on_axes}
use Rattle.shapes.specs.Wkb.{Decoded, decode, refused, read}
use Rattle.shapes.specs.declared.code.Code.{Code}
use Rattle.shapes.specs.declared.coord.Coord.{Coord}
use Rattle.bounding.specs.Numbers.{numbers}
use Rattle.bounding.specs.Record.{Kept}
use Rattle.bounding.specs.Told.{Told}
use Rattle.bounding.specs.Walk.{Adds}
use Rattle.script.specs.declared.answer.Answer.{Answer}
use Rattle.script.specs.declared.answer.Bounds as told
use Rattle.script.specs.declared.answer.Shape as shown
use Rattle.script.specs.declared.pair.Pair as ends
use Rattle.script.specs.declared.sources.Given.{Given}
use Rattle.script.specs.declared.sources.Given.TheVariants.{Bytes, Swapped, Table}
use Rattle.script.specs.declared.answer.Answer.TheVariants.{Counted}
use Rattle.script.specs.declared.refusal.NotGranted.{NotGranted}
use Rattle.script.specs.declared.refusal.NotGranted.TheVariants.{Refused, Wrong}
use Rattle.script.specs.declared.refusal.Refusal.{Refusal}
use Rattle.script.specs.declared.refusal.Refusal.TheVariants.{Asked, Source}
use Rattle.script.specs.declared.wrong.Wrong.TheVariants.{NoMemory}

-- x and y exchanged
abbrev pub swapped_of : Decoded → Decoded
swapped_of (refused f) = refused f
swapped_of (read c cs) = read c (map exchange cs)

abbrev table_with : Option Code → List Coord → Decoded
table_with None cs = refused (at TableCode 0)
table_with (Some c) cs = read c (map (on_axes c.dim) cs)

-- a table of these coordinates with that number as its code
abbrev pub table_of : ℕ → List Coord → Decoded
table_of n cs = table_with (code_of n) cs

-- what is given in a script
abbrev pub meant : Given → Decoded
meant (Bytes v) = decode (vec_items v)
meant (Swapped v) = swapped_of (decode (vec_items v))
meant (Table n cs) = table_of n (vec_items cs)

-- how it is told that what is given is refused: bytes are refused by the bounder, and else the source is not there
abbrev pub refusal : Given → Fault → Refusal
refusal (Bytes v) f = Asked f
refusal (Swapped v) f = Source f
refusal (Table n cs) f = Source f

-- the answer is the shape that was read, or the refusal; or memory ran out
abbrev pub Shows : Decoded → Result shown.Shape NotGranted → Type 0
Shows d (Ok s) = d ≡ read s.code (vec_items s.coords)
Shows d (Err (Refused (Asked f))) = d ≡ refused f
Shows d (Err (Refused (Source f))) = ⊥
Shows d (Err (Wrong w)) = w ≡ NoMemory

-- a shape is counted, and a refusal is told in that way
abbrev pub counted_as : (Fault → Refusal) → Decoded → Result Answer Refusal
counted_as way (refused f) = Err (way f)
counted_as way (read c cs) = Ok Counted

-- what a bounder with the hint h keeps: the shape was added to k, or k is as it was
abbrev pub Takes : Decoded → Pair → Kept → Kept → Type 0
Takes (refused f) h k l = l ≡ k
Takes (read c cs) h k l = Adds h k (record { code = c; coords = cs }) l

-- the ends of an axis that is told
abbrev pub ends_of : Option ends.Pair → Option Pair
ends_of None = None
ends_of (Some p) = Some (pair p.lo p.hi)

-- the answer has what is told, the codes in rising order
abbrev pub Reports : Told → told.Bounds → Type 0
Reports t b = (ends_of b.x ≡ t.x) × (ends_of b.y ≡ t.y) × (ends_of b.z ≡ t.z) × (ends_of b.m ≡ t.m) × (vec_items b.codes ≡ numbers t.codes)
