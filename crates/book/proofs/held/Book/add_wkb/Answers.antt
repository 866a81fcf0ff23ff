use Rattle.std.proofs.Common.{◌≡◌, [], ◌∷◌, Ok, Err, Result, inl, inr, sym, refl, ap, ◌∙◌, subst, rules}
use Rattle.interval.specs.declared.fault.Fault.{Fault}
use Rattle.interval.specs.Faults.{on_page}
use Rattle.interval.specs.Pairs.{ends}
use Rattle.shapes.specs.Source.{Shape}
use Rattle.shapes.specs.Wkb.{decode, code_at, coords_in}
use Rattle.book.specs.declared.states.Asked.TheVariants.{Add}
use Rattle.book.specs.declared.states.Deed.TheVariants.{Put}
use Rattle.book.specs.Answers.{added, brought_by}
use Rattle.book.specs.declared.states.Deed.{Deed}
use Rattle.book.specs.Room.{usable}
use Rattle.book.specs.Standing.{outcome, ruling}
use Rattle.book.specs.Keeping.{Keeps, hint_of, size}
use Rattle.book.proofs.Moves.{does, moved, brought, put, refused, by_variant}
use Rattle.book.proofs.held.Book.add_wkb.Goals as goal

pub returns-in_err-ruled : goal.returns-in_err-ruled
returns-in_err-ruled c = refused c.args.self.now (Add c.args.slip.now.page) (brought_by (decode c.args.bytes.now)) c.in_err-ruled.field-0.0 _ c.from_residual.ensures.1 c.in_err-ruled.ensures

pub returns : goal.returns
returns c =
    let b = c.args.self.now in
    let p = c.args.slip.now.page in
    let a = Add p in
    let bytes = c.args.bytes.now in
    let s : Shape = record { code = code_at bytes; coords = coords_in bytes } in
    let granted : Ok Put ≡ ruling b.state b.closed (usable (size b)) a = search rules in
    elim (by_variant c.update_wkb.result c.map_err.result c.update_wkb.ensures.adds c.map_err.ensures.cases) [
      | inl (x, (decoded, adds, held), is) ↦
          brought b _ a _ _ _ (ap brought_by decoded)
          (does b _ a (s ∷ []) Put _ is granted refl (ap ends c.update_wkb.ensures.hint) refl refl (λ q k. refl) (λ q k. put k s _ adds held))
      | inr (f, (decoded, same), (e, is, says)) ↦
          let paged : e ≡ on_page f p = search rules in
          brought b _ a _ _ _ (ap brought_by decoded)
          (moved b _ a (Err f) (Err (on_page f p)) _ (ap (λ (u : Result Deed Fault). outcome u a (Err f)) granted)
          refl (ap (λ z. ends z.hint) same) refl refl (λ q k. refl)
          (λ q k. subst (λ z. Keeps (hint_of b) q b.table.now z.kept b.closed b.state) (sym same) k)
          (λ q k u. is ∙ ap (λ (z : Fault). Err z) paged ∙ ap added (sym u)))
    ]
