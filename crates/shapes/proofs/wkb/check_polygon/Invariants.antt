use Rattle.shapes.specs.Wkb.{line}
use Rattle.shapes.proofs.Reading.{Turned}
use Rattle.shapes.proofs.wkb.check_polygon.Given as goal

abbrev pub invariant-rings : goal.invariant-rings
invariant-rings l = Turned (line l.order l.dim) l.n l.counter l.initial.rest l.rest
