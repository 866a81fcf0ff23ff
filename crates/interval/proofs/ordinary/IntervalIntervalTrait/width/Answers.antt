use Rattle.std.proofs.Common.{refl}
use Rattle.interval.specs.Pairs.{width}
use Rattle.interval.proofs.ordinary.IntervalIntervalTrait.width.Goals as goal

pub returns : goal.returns
unfolding width
returns c = refl
