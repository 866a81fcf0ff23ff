use Rattle.std.proofs.Common.{rules}
use Rattle.number.specs.Values.{Held}
use Rattle.interval.specs.Pairs.{pair}
use Rattle.interval.proofs.Wraps.{covered-between, upward_plain}
use Rattle.interval.proofs.wraparound.WraparoundIntervalIntervalTrait.new.Goals as goal

pub returns-clause-law : goal.returns-clause-law
returns-clause-law c =
    let p = pair c.args.lo c.args.hi in
    let l : Held c.args.lo = search rules in
    let h : Held c.args.hi = search rules in
    λ u v V. covered-between p v (upward_plain p (l, h) u)
