use Rattle.std.proofs.Common.{refl, ap₂}
use lib.Ieee.{of_bits}
use Rattle.interval.specs.Pairs.{pair}
use Rattle.shapes.proofs.span.Span.empty.Goals as goal

pub returns : goal.returns
unfolding of_bits
returns c = ap₂ pair refl refl
