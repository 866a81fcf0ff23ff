use Rattle.std.proofs.Common.{arith}
use Rattle.interval.specs.Wraparound.{width}
use Rattle.interval.proofs.Literals.{highest-bits}
use Rattle.interval.proofs.wraparound.WraparoundIntervalIntervalTrait.width.Goals as goal

pub returns-then-not-is_wraparound : goal.returns-then-not-is_wraparound
unfolding width
returns-then-not-is_wraparound c = grind arith

pub returns : goal.returns
unfolding width
returns c = grind (arith, highest-bits)
