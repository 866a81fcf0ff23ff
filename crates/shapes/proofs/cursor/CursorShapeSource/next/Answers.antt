use Rattle.shapes.proofs.Sound.{cursor_lacks}
use Rattle.shapes.proofs.cursor.CursorShapeSource.next.Goals as goal

pub returns-clause-lacking : goal.returns-clause-lacking
returns-clause-lacking c = cursor_lacks c.args.self.now
