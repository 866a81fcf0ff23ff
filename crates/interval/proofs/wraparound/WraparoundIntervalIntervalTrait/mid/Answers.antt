use Rattle.std.proofs.Common.{arith}
use Rattle.interval.specs.Wraparound.{middle}
use Rattle.interval.proofs.Literals.{highest-bits}
use Rattle.interval.proofs.wraparound.WraparoundIntervalIntervalTrait.mid.Goals as goal

pub returns-then-not-is_wraparound : goal.returns-then-not-is_wraparound
unfolding middle
returns-then-not-is_wraparound c = grind arith

pub returns : goal.returns
unfolding middle
returns c = grind (arith, highest-bits)
