-- How a book keeps what stands, and what each call does for every list of calls before it.
use Rattle.std.specs.Prelude.{◌≡◌, ℕ, List, [], ◌∷◌, ◌++◌, map, length, take, Ok, Err, Result, slice_set}
use Rattle.interval.specs.declared.fault.Fault.{Fault}
use Rattle.interval.specs.Pairs.{Pair, ends}
use Rattle.shapes.specs.Source.{Shape}
use Rattle.bounding.specs.declared.records.PageRecord.{PageRecord}
use Rattle.bounding.specs.Record.{record_of}
use Rattle.bounding.specs.Told.{Told}
use Rattle.bounding.specs.Laws.{HeldShapes, together}
use Rattle.bounding.specs.Walk.{kept}
use Rattle.book.specs.declared.held.Book.{Book}
use Rattle.book.specs.declared.states.State.{State}
use Rattle.book.specs.declared.states.State.TheVariants.{Idle, Filling, Refilling}
use Rattle.book.specs.declared.states.Asked.{Asked}
use Rattle.book.specs.declared.states.Deed.{Deed}
use Rattle.book.specs.declared.states.Deed.TheVariants.{Begin, Again, Put, Append, Replace, Forget}
use Rattle.book.specs.Standing.{Standing, Call, Brought, moves, asks, standing, verdict}
use Rattle.book.specs.declared.states.Target.{Target}
use Rattle.book.specs.declared.states.Target.TheVariants.{Column}
use Rattle.book.specs.declared.states.Verdict.{Verdict}
use Rattle.book.specs.declared.states.Verdict.TheVariants.{Skip}
use Rattle.book.specs.Windows.{Frame}
use Rattle.book.specs.Promises.{NoneMeets, TellsAll, SkippedHoldsNoMeetingRun, ColumnIgnoresOrderAndCopies}

-- while a page is open, the pending record is that of its list
abbrev pub Pending : Pair → State → PageRecord → List Shape → Type 0
Pending hint Idle r l = Unit {0}
Pending hint Filling r l = kept r ≡ record_of hint l
Pending hint (Refilling n) r l = kept r ≡ record_of hint l

-- A book with these fields keeps what stands.
pub record Keeps (hint : Pair) (s : Standing) (table : List PageRecord) (pending : PageRecord) (closed : ℕ) (state : State) : Type 0 where
  pub count : closed ≡ length s.pages
  pub same_state : state ≡ s.state
  pub records : map kept (take closed table) ≡ map (record_of hint) s.pages
  pub open_list : Pending hint state pending s.current
  pub held : HeldShapes (together s.pages)
  pub held_open : HeldShapes s.current

abbrev pub hint_of : Book → Pair
hint_of b = ends b.pending.now.hint

abbrev pub KeptBy : Standing → Book → Type 0
KeptBy s b = Keeps (hint_of b) s b.table.now b.pending.now.kept b.closed b.state

abbrev pub size : Book → ℕ
size b = length b.table.now

-- a granted close alone writes the table, and only its page's record
abbrev pub Replaced : Pair → Standing → ℕ → List PageRecord → List PageRecord → Type 0
Replaced hint s n t u = (r : PageRecord) × (u ≡ slice_set t n r) × (kept r ≡ record_of hint s.current)

abbrev pub WrittenBy : Pair → Standing → List PageRecord → List PageRecord → Result Deed Fault → Type 0
WrittenBy hint s t u (Ok Begin) = u ≡ t
WrittenBy hint s t u (Ok (Again n)) = u ≡ t
WrittenBy hint s t u (Ok Put) = u ≡ t
WrittenBy hint s t u (Ok Append) = Replaced hint s (length s.pages) t u
WrittenBy hint s t u (Ok (Replace n)) = Replaced hint s n t u
WrittenBy hint s t u (Ok Forget) = u ≡ t
WrittenBy hint s t u (Err f) = u ≡ t

abbrev pub Written : Pair → ℕ → Standing → Call → List PageRecord → List PageRecord → Type 0
Written hint len s (moves a x) t u = WrittenBy hint s t u (verdict len s a x)
Written hint len s asks t u = u ≡ t

-- A call that takes the book from b to b'. For every list of calls that b keeps, b' keeps the longer list, the answer is the one defined
-- from what stands, the table is written as defined, and both promises hold of what stands then.
pub record Step (b b' : Book) (c : Call) (Answered : Standing → Type 0) : Type 0 where
  pub same_size : size b' ≡ size b
  pub same_hint : hint_of b' ≡ hint_of b
  pub same_table : b'.table.ghost_name ≡ b.table.ghost_name
  pub same_pending : b'.pending.ghost_name ≡ b.pending.ghost_name
  pub writes : (h : List Call) → KeptBy (standing (size b) h) b → Written (hint_of b) (size b) (standing (size b) h) c b.table.now b'.table.now
  pub keeps : (h : List Call) → KeptBy (standing (size b) h) b → KeptBy (standing (size b) (h ++ c ∷ [])) b'
  pub answers : (h : List Call) → KeptBy (standing (size b) h) b → Answered (standing (size b) h)
  pub skips : (h : List Call) → KeptBy (standing (size b) h) b → SkippedHoldsNoMeetingRun (hint_of b) (standing (size b) (h ++ c ∷ []))
  pub tells : (h : List Call) → KeptBy (standing (size b) h) b → ColumnIgnoresOrderAndCopies (hint_of b) (standing (size b) (h ++ c ∷ []))

-- a call that may change what stands, answered by its verdict
abbrev pub Moved : {R : Type 0} → Book → Book → Asked → Brought → (Standing → Result Deed Fault → R) → R → Type 0
Moved b b' a x answer r = Step b b' (moves a x) (λ s. r ≡ answer s (verdict (size b) s a x))

-- ---- the promises on the answers themselves

-- where sift answered skip, no run meets the window
abbrev pub SkippedSoundly : Book → Frame → Target → Result Verdict Fault → Type 0
SkippedSoundly b w g r = r ≡ Ok Skip → (h : List Call) → KeptBy (standing (size b) h) b → NoneMeets w (standing (size b) h) g

-- what tell answered for the column is what one new bounder tells of the standing shapes
abbrev pub ToldTruly : Book → Target → Result Told Fault → Type 0
ToldTruly b g r = (t : Told) → g ≡ Column → r ≡ Ok t → (h : List Call) → KeptBy (standing (size b) h) b → TellsAll (hint_of b) (standing (size b) h) t
