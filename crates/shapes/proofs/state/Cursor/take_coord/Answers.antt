use Rattle.std.proofs.Common.{◌≡◌, ◌*◌, ◌<◌, ◌≤◌, length, drop, refl, ap, ◌∙◌, inl, inr, arith, length-drop, rules}
use Rattle.std.proofs.lemmas.List.{take_rest}
use Rattle.shapes.specs.Codes.{width}
use Rattle.shapes.specs.Pending.{still}
use Rattle.shapes.proofs.Cursors.{give-next, coord-cut, width_two}
use Rattle.shapes.proofs.state.Cursor.take_coord.Goals as goal

pub returns-in_err-rest : goal.returns-in_err-rest
unfolding still
returns-in_err-rest c =
    let s = c.args.self.now in
    let w : length s.rest.now < 8 * width s.code.dim = elim c.in_err-rest.ensures.lookup.0 [ inl h ↦ omega (arith, c.width.ensures, h) | inr h ↦ absurd (omega arith) ] in
    rw c.from_residual.ensures (coord-cut s.order s.code.dim s.joins _ _ s.rest.now c.requires w, refl)

pub returns : goal.returns
unfolding still
returns c =
    let s = c.args.self.now in
    let d = s.code.dim in
    let q = c.in_ok-rest.ensures.lookup.0 in
    let l : length s.counts ≡ 33 = search rules in
    let w : 8 * width d ≤ length s.rest.now = omega (arith, c.width.ensures, q.0) in
    let r = q.2 ∙ take_rest s.rest.now (8 * c.width.result) ∙ ap (λ i. drop (8 * i) s.rest.now) c.width.ensures in
    record {
      first =
          give-next s.order d s.joins s.inner s.counts s.depth s.rest.now _ c.coordinate-c.result l s.shallow c.requires w r c.coordinate-c.ensures;
      code = refl;
      lower = omega (arith, width_two d, w, ap length r, length-drop (8 * width d) s.rest.now);
    }
