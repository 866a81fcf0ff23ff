use Rattle.std.proofs.Common.{arith}
use Rattle.interval.specs.Wraparound.{widens_lower}
use Rattle.interval.proofs.wraparound.widens_lower.Goals as goal

pub returns-then-lower-upper : goal.returns-then-lower-upper
unfolding widens_lower
returns-then-lower-upper c = grind arith

pub returns : goal.returns
unfolding widens_lower
returns c = grind arith
