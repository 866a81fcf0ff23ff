use Rattle.std.proofs.Common.{arith}
use Rattle.interval.specs.Pairs.{wraps}
use Rattle.interval.proofs.Literals.{zero_bits}
use Rattle.interval.proofs.wraparound.WraparoundIntervalIntervalTrait.is_wraparound.Goals as goal

pub returns : goal.returns
unfolding wraps
returns c = grind (arith, zero_bits)
