use Rattle.std.proofs.Common.{rules}
use Rattle.book.specs.Windows.{set}
use Rattle.book.proofs.Judged.{told-shares-if}
use Rattle.book.proofs.window.shares.Goals as goal

pub returns : goal.returns
returns c = told-shares-if c.args.told (set c.args.window.now) c.is_some_and.result (search rules)
