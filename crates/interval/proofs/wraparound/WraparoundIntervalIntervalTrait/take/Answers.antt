use Rattle.std.proofs.Common.{arith, rules}
use Rattle.number.specs.Values.{Held}
use Rattle.interval.specs.Pairs.{pair}
use Rattle.interval.proofs.Wraps.{covers-stored}
use Rattle.interval.proofs.wraparound.WraparoundIntervalIntervalTrait.take.Goals as goal

pub returns-clause-law : goal.returns-clause-law
returns-clause-law c =
    let l : Held c.args.lo = search rules in
    let h : Held c.args.hi = search rules in
    let e = c.in_ok-inner.ensures.2 in
    (grind arith, rw e (covers-stored (pair c.args.lo c.args.hi) (l, h) (grind arith) (grind arith) (grind arith)))
