use Rattle.book.proofs.Moves.{nothing-kept}
use Rattle.book.proofs.held.Book.new.Goals as goal

pub returns-clause-kept : goal.returns-clause-kept
returns-clause-kept c = nothing-kept _ _ _
