use Rattle.std.proofs.Common.{rules}
use Rattle.number.specs.Values.{Held}
use Rattle.interval.specs.Pairs.{ends}
use Rattle.interval.proofs.Between.{adds}
use Rattle.interval.proofs.ordinary.IntervalIntervalTrait.merge_value.Goals as goal

pub returns-clause-law : goal.returns-clause-law
returns-clause-law c =
    let s = c.args.self.now in
    let v = c.args.value in
    let h : Held v = search rules in
    let e = c.update_value.ensures in
    rw e (adds (ends s) v s.held h)
