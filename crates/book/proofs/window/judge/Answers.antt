use Rattle.std.proofs.Common.{ap, rules}
use Rattle.interval.specs.Pairs.{inner_ends}
use Rattle.bounding.specs.Walk.{answer, optional_inner}
use Rattle.book.specs.Verdicts.{frame_of}
use Rattle.book.proofs.Judged.{judged}
use Rattle.book.proofs.window.judge.Goals as goal

pub returns : goal.returns
returns g c u =
    let x = c.in-Some.x in
    let (granted, equal) = c.in_ok-bounds.ensures in
    judged g.K.IntervalTrait.WRAPS (answer c.args.told.now) (frame_of g.K.IntervalTrait.covers c.args.window.now) (inner_ends x) (g.K.IntervalTrait.covers c.in_ok-bounds.bounds) c.intersects_interval.result
    c.shares.result c.shares_asked.result c.shares_asked-2.result (ap optional_inner c.in-Some.is) x.inner.held.0 granted equal c.intersects_interval.ensures u c.shares.ensures c.shares_asked.ensures c.shares_asked-2.ensures _ (search rules)
