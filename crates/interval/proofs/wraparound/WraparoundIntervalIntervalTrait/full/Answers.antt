use Rattle.interval.proofs.Wraps.{covers-all}
use Rattle.interval.proofs.wraparound.WraparoundIntervalIntervalTrait.full.Goals as goal

pub returns-clause-law : goal.returns-clause-law
returns-clause-law c = let e = c.full.ensures.exact in rw e covers-all
