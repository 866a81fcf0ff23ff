use Rattle.std.proofs.Common.{◌≡◌, ◌≤◌, length}
use Rattle.shapes.specs.Pending.{still}
use Rattle.shapes.specs.Steps.{effort}
use Rattle.shapes.proofs.state.Cursor.settle.Given as goal

abbrev pub invariant-loop-self : goal.invariant-loop-self
invariant-loop-self l = (still l.self ≡ still l.initial.self) × (length l.self.rest.now ≤ length l.initial.self.rest.now) × (l.self.code ≡ l.initial.self.code)

abbrev pub decreases-loop-self : goal.decreases-loop-self
decreases-loop-self l = effort l.self
