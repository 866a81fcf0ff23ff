use Rattle.interval.specs.Wraparound.{closed}
use Rattle.interval.proofs.wraparound.closed.Goals as goal

pub returns-then-lo-hi : goal.returns-then-lo-hi
unfolding closed
returns-then-lo-hi c = rw c.if-lo-hi.true c.full.ensures.exact

pub returns-else-lo-hi : goal.returns-else-lo-hi
unfolding closed
returns-else-lo-hi c = rw c.if-lo-hi.false c.new.ensures.exact
