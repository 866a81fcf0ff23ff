use Rattle.std.proofs.Common.{[], ◌∷◌, Ok, refl, rules}
use Rattle.book.specs.declared.states.Asked.TheVariants.{Add}
use Rattle.book.specs.declared.states.Deed.TheVariants.{Put}
use Rattle.book.proofs.Moves.{does, put, refused}
use Rattle.book.proofs.held.Book.add.Goals as goal

pub returns-in_err-ruled-clause-step : goal.returns-in_err-ruled-clause-step
returns-in_err-ruled-clause-step g c =
    refused c.args.self.now (Add c.args.slip.now.page) (Ok (g.S.ShapeSource.means c.args.source.now ∷ [])) c.in_err-ruled.field-0.0 _ c.from_residual.ensures.1 c.in_err-ruled.ensures

pub returns-clause-step : goal.returns-clause-step
returns-clause-step g c =
    let s = g.S.ShapeSource.means c.args.source.now in
    does c.args.self.now _ (Add c.args.slip.now.page) (s ∷ []) Put _ refl (search rules) refl (search rules) refl refl (λ s k. refl)
    (λ q k. put k s _ c.update_source.ensures.adds c.update_source.ensures.held)
