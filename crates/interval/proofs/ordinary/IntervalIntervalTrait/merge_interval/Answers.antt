use Rattle.interval.specs.Pairs.{ends}
use Rattle.interval.proofs.Between.{merges}
use Rattle.interval.proofs.ordinary.IntervalIntervalTrait.merge_interval.Goals as goal

pub returns-clause-law : goal.returns-clause-law
returns-clause-law c =
    let s = c.args.self.now in
    let o = c.args.other.now in
    let e = c.update_interval.ensures in
    rw e (merges (ends s) (ends o) s.held o.held)
