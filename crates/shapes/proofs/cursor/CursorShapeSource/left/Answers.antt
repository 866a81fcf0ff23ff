use Rattle.std.proofs.Common.{arith}
use Rattle.shapes.proofs.Sound.{cursor_enough}
use Rattle.shapes.proofs.cursor.CursorShapeSource.left.Goals as goal

pub returns-clause-enough : goal.returns-clause-enough
returns-clause-enough c = omega (arith, cursor_enough c.args.self.now)
