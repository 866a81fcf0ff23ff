use Rattle.std.proofs.Common.{refl}
use Rattle.interval.proofs.Literals.{highest-bits, lowest-bits}
use Rattle.interval.proofs.Between.{all}
use Rattle.interval.proofs.ordinary.IntervalIntervalTrait.full.Goals as goal

pub returns : goal.returns
returns c = rw (highest-bits, lowest-bits) (record { law = all; exact = refl })
