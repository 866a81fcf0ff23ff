-- What room a book needs in its table.
use Rattle.std.specs.Prelude.{ℕ, ◌+◌, min}
use Rattle.book.specs.declared.states.State.{State}
use Rattle.book.specs.declared.states.State.TheVariants.{Idle, Filling, Refilling}

-- the records that a book may use of a table of this length
abbrev pub usable : ℕ → ℕ
usable len = min len 4096

-- the pages that are closed, or filled for the first time
abbrev pub reach : State → ℕ → ℕ
reach Idle closed = closed
reach Filling closed = closed + 1
reach (Refilling n) closed = closed

-- the pages up to one that is refilled
abbrev pub back : State → ℕ
back Idle = 0
back Filling = 0
back (Refilling n) = n + 1
