-- The two promises about what stands, for every window and every list of the same shapes.
use Rattle.std.specs.Prelude.{◌≡◌, cond, List, [], map, length, Ok, Err, Result, nat_lt, slice_index_or}
use mathlib.Core.List.{Memᴰ}
use Rattle.interval.specs.declared.fault.Cause.TheVariants.{NoSuchPage}
use Rattle.interval.specs.declared.fault.Fault.{Fault}
use Rattle.interval.specs.Faults.{at}
use Rattle.interval.specs.Pairs.{Pair}
use Rattle.shapes.specs.Source.{Shape}
use Rattle.bounding.specs.Runs.{Run, runs_of}
use Rattle.bounding.specs.Record.{Kept, record_of}
use Rattle.bounding.specs.Told.{Told, told}
use Rattle.bounding.specs.Laws.{SameMembers, AlikeTold, merged_from, together}
use Rattle.book.specs.declared.states.Target.{Target}
use Rattle.book.specs.declared.states.Target.TheVariants.{Page, Column}
use Rattle.book.specs.Standing.{Standing}
use Rattle.book.specs.Windows.{Frame, RunMeets, SharesAll}

-- the shapes that stand on a page, or on all pages
abbrev pub on : Standing → Target → List Shape
on s (Page n) = slice_index_or s.pages n []
on s Column = together s.pages

-- a page's record is what a new bounder with the hint keeps of its shapes; the column's is all pages' records merged
abbrev pub record_at : Pair → Standing → Target → Kept
record_at hint s (Page n) = record_of hint (slice_index_or s.pages n [])
record_at hint s Column = merged_from (record_of hint []) (map (record_of hint) s.pages)

-- what tell answers
abbrev pub tells : Pair → Standing → Target → Result Told Fault
tells hint s (Page n) = cond (nat_lt n (length s.pages)) (Ok (told hint (record_at hint s (Page n)))) (Err (at NoSuchPage n))
tells hint s Column = Ok (told hint (record_at hint s Column))

-- no run that a page or the column holds meets the window
abbrev pub NoneMeets : Frame → Standing → Target → Type 0
NoneMeets w s g = (r : Run) → Memᴰ r (runs_of (on s g)) → RunMeets w r → ⊥

-- Where some axis asked for shares no value with what is told of a page or the column, so that sift skips it, none of its runs meets the window.
abbrev pub SkippedHoldsNoMeetingRun : Pair → Standing → Type 0
SkippedHoldsNoMeetingRun hint s =
    (w : Frame) (g : Target) (t : Told) → tells hint s g ≡ Ok t → (SharesAll t w → ⊥) → NoneMeets w s g

-- t is what is told of one new bounder with the hint, given any list that has each standing shape once or more and no other
abbrev pub TellsAll : Pair → Standing → Told → Type 0
TellsAll hint s t = (ss : List Shape) → SameMembers (on s Column) ss → AlikeTold t (told hint (record_of hint ss))

-- What is told of the column is what is told of one new bounder after any list of the standing shapes, each once or more and no other.
abbrev pub ColumnIgnoresOrderAndCopies : Pair → Standing → Type 0
ColumnIgnoresOrderAndCopies hint s = (t : Told) → tells hint s Column ≡ Ok t → TellsAll hint s t
