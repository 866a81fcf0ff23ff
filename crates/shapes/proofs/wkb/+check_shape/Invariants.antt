use Rattle.std.proofs.Common.{◌-◌, Some}
use Rattle.shapes.specs.Wkb.{shape}
use Rattle.shapes.proofs.Reading.{Turned}
use Rattle.shapes.proofs.wkb.+check_shape.Given as goal

abbrev pub decreases-check_shape : goal.decreases-check_shape
decreases-check_shape l = l.levels

abbrev pub invariant-parts : goal.invariant-parts
invariant-parts l = Turned (shape (l.levels - 1) (Some l.code)) l.n l.counter l.initial.rest l.rest
