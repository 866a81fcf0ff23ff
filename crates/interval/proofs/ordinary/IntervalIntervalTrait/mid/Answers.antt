use Rattle.std.proofs.Common.{arith}
use Rattle.interval.specs.Ordinary.{middle}
use Rattle.interval.proofs.Literals.{highest-bits, two_bits}
use Rattle.interval.proofs.ordinary.IntervalIntervalTrait.mid.Goals as goal

pub returns-then-is_finite-width : goal.returns-then-is_finite-width
unfolding middle
returns-then-is_finite-width c = grind (arith, highest-bits, two_bits)

pub returns-else-is_finite-width : goal.returns-else-is_finite-width
unfolding middle
returns-else-is_finite-width c = grind (arith, highest-bits, two_bits)
