use Rattle.std.proofs.Common.{refl}
use Rattle.interval.proofs.Literals.{highest-bits, lowest-bits}
use Rattle.interval.proofs.Between.{none}
use Rattle.interval.proofs.ordinary.IntervalIntervalTrait.empty.Goals as goal

pub returns : goal.returns
returns c = rw (highest-bits, lowest-bits) (record { law = λ v V. none v; exact = refl })
