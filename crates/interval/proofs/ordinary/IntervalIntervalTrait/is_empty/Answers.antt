use Rattle.std.proofs.Common.{arith}
use Rattle.interval.specs.Pairs.{empty}
use Rattle.interval.proofs.Literals.{lowest-bits}
use Rattle.interval.proofs.ordinary.IntervalIntervalTrait.is_empty.Goals as goal

pub returns : goal.returns
unfolding empty
returns c = grind (arith, lowest-bits)
