use Rattle.interval.proofs.Wraps.{covers-none}
use Rattle.interval.proofs.wraparound.WraparoundIntervalIntervalTrait.empty.Goals as goal

pub returns-clause-law : goal.returns-clause-law
returns-clause-law c = let e = c.empty.ensures.exact in rw e covers-none
