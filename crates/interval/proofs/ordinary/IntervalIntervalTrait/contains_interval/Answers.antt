use Rattle.interval.specs.Pairs.{ends}
use Rattle.interval.proofs.Between.{contains}
use Rattle.interval.proofs.ordinary.IntervalIntervalTrait.contains_interval.Goals as goal

pub returns-clause-law : goal.returns-clause-law
returns-clause-law c =
    let s = c.args.self.now in
    let o = c.args.other.now in
    contains (ends s) (ends o) s.held o.held
