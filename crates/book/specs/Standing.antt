-- What stands on the pages, from the table's length and the calls alone.
use Rattle.std.specs.Prelude.{ℕ, cond, List, [], ◌∷◌, ◌++◌, length, Some, None, Ok, Err, Option, Result, ◌==◌, nat_lt, slice_set}
use Rattle.interval.specs.declared.fault.Cause.TheVariants.{WrongSlip, PageOpen, TableFull, NoSuchPage}
use Rattle.interval.specs.declared.fault.Fault.{Fault}
use Rattle.interval.specs.Faults.{at, on_page}
use Rattle.shapes.specs.Source.{Shape}
use Rattle.book.specs.declared.states.State.{State}
use Rattle.book.specs.declared.states.State.TheVariants.{Idle, Filling, Refilling}
use Rattle.book.specs.declared.states.Asked.{Asked}
use Rattle.book.specs.declared.states.Asked.TheVariants.{Open, Retake, Add, Close, Discard}
use Rattle.book.specs.declared.states.Deed.{Deed}
use Rattle.book.specs.declared.states.Deed.TheVariants.{Begin, Again, Put, Append, Replace, Forget}
use Rattle.book.specs.Room.{usable}

-- The closed pages, each by the list of its shapes, and the list of the page that is open.
pub record Standing : Type 0 where
  pub pages : List (List Shape)
  pub state : State
  pub current : List Shape

abbrev pub start : Standing
start = record { pages = []; state = Idle; current = [] }

-- the number of the open page; a new page's number is the count of closed pages
abbrev pub open_page : State → ℕ → Option ℕ
open_page Idle closed = None
open_page Filling closed = Some closed
open_page (Refilling n) closed = Some n

-- ---- the causes of a refusal

abbrev pub busy : Option ℕ → Option Fault
busy None = None
busy (Some p) = Some (at PageOpen p)

abbrev pub foreign : Option ℕ → ℕ → Option Fault
foreign None p = Some (at WrongSlip p)
foreign (Some q) p = cond (p == q) None (Some (at WrongSlip p))

abbrev pub crowded : ℕ → ℕ → Option Fault
crowded closed room = cond (nat_lt closed room) None (Some (at TableFull closed))

abbrev pub missing : ℕ → ℕ → Option Fault
missing n closed = cond (nat_lt n closed) None (Some (at NoSuchPage n))

-- the first cause that applies
abbrev pub first : Option Fault → Option Fault → Option Fault
first (Some f) g = Some f
first None g = g

abbrev pub refusal : Option ℕ → ℕ → ℕ → Asked → Option Fault
refusal o closed room Open = first (busy o) (crowded closed room)
refusal o closed room (Retake n) = first (busy o) (missing n closed)
refusal o closed room (Add p) = foreign o p
refusal o closed room (Close p) = foreign o p
refusal o closed room (Discard p) = foreign o p

-- ---- what a granted call does

abbrev pub closing : State → Deed
closing Idle = Forget
closing Filling = Append
closing (Refilling n) = Replace n

abbrev pub deed : State → Asked → Deed
deed q Open = Begin
deed q (Retake n) = Again n
deed q (Add p) = Put
deed q (Close p) = closing q
deed q (Discard p) = Forget

abbrev pub granted : Option Fault → Deed → Result Deed Fault
granted (Some f) d = Err f
granted None d = Ok d

-- whether a call is granted, by the state, the count of closed pages and the usable records
abbrev pub ruling : State → ℕ → ℕ → Asked → Result Deed Fault
ruling q closed room a = granted (refusal (open_page q closed) closed room a) (deed q a)

-- open and retake begin an empty list, add puts its shapes on it, close appends it as the next page or replaces a page's list by it, discard drops it
abbrev pub done : Standing → List Shape → Deed → Standing
done s xs Begin = record { pages = s.pages; state = Filling; current = [] }
done s xs (Again n) = record { pages = s.pages; state = Refilling n; current = [] }
done s xs Put = record { pages = s.pages; state = s.state; current = s.current ++ xs }
done s xs Append = record { pages = s.pages ++ s.current ∷ []; state = Idle; current = [] }
done s xs (Replace n) = record { pages = slice_set s.pages n s.current; state = Idle; current = [] }
done s xs Forget = record { pages = s.pages; state = Idle; current = [] }

-- ---- calls

-- the shapes that a call brings, or the fault of its bytes; only an add brings any
abbrev pub Brought : Type 0
Brought = Result (List Shape) Fault

-- a call that may change what stands, or a question, which does not
pub data Call : Type 0 where
  moves : Asked → Brought → Call
  asks : Call

abbrev pub page_of : Asked → ℕ
page_of Open = 0
page_of (Retake n) = n
page_of (Add p) = p
page_of (Close p) = p
page_of (Discard p) = p

-- a fault of the bytes is met once the slip has passed, and is told with the page
abbrev pub outcome : Result Deed Fault → Asked → Brought → Result Deed Fault
outcome (Err f) a x = Err f
outcome (Ok d) a (Ok xs) = Ok d
outcome (Ok d) a (Err f) = Err (on_page f (page_of a))

abbrev pub shapes_in : Brought → List Shape
shapes_in (Ok xs) = xs
shapes_in (Err f) = []

abbrev pub verdict : ℕ → Standing → Asked → Brought → Result Deed Fault
verdict len s a x = outcome (ruling s.state (length s.pages) (usable len) a) a x

abbrev pub after : Standing → Brought → Result Deed Fault → Standing
after s x (Ok d) = done s (shapes_in x) d
after s x (Err f) = s

abbrev pub step : ℕ → Standing → Call → Standing
step len s (moves a x) = after s x (verdict len s a x)
step len s asks = s

-- what stands after the calls, from the first on
unfoldable pub run : ℕ → Standing → List Call → Standing
run len s [] = s
run len s (c ∷ cs) = run len (step len s c) cs

abbrev pub standing : ℕ → List Call → Standing
standing len cs = run len start cs
