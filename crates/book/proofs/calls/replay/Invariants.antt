use Rattle.std.proofs.Common.{◌≡◌, take, drop}
use Rattle.book.proofs.Turns.{Played}
use Rattle.book.proofs.calls.replay.Given as goal

-- the calls so far are played, and those to come are as they were
abbrev pub invariant-loop-i : goal.invariant-loop-i
invariant-loop-i g l =
    record {
      played : Played g.K.IntervalTrait.WRAPS g.K.IntervalTrait.covers g.S.ShapeSource.means l.initial.book l.fn.requests l.initial.replies l.replies l.i l.book;
      rest : drop l.i l.request-items ≡ drop l.i (take l.n l.fn.requests);
    }
