use Rattle.std.proofs.Common.{arith}
use Rattle.interval.proofs.Literals.{highest-bits}
use Rattle.bounding.specs.Record.{divide}
use Rattle.bounding.proofs.bounder.divide.Goals as goal

pub returns-then-is_finite-width : goal.returns-then-is_finite-width
unfolding divide
returns-then-is_finite-width c = grind (arith, highest-bits)

pub returns-else-is_finite-width : goal.returns-else-is_finite-width
unfolding divide
returns-else-is_finite-width c = grind (arith, highest-bits)
