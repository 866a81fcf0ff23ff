use Rattle.std.proofs.Common.{◌≡◌, length, Some, None, Option, MatchOption, sym, ap, ◌∙◌, arith, rules}
use Rattle.shapes.specs.Pending.{still}
use Rattle.shapes.specs.Steps.{entered}
use Rattle.shapes.proofs.Coding.{fits-dim}
use Rattle.shapes.proofs.Cursors.{kept, lost, pending-parts, part_headed, part_unheaded}
use Rattle.shapes.proofs.state.Cursor.start_part.Goals as goal

option_map : {A : Type 0} (r : Option A) {P P' : Type 0} {Q Q' : A → Type 0} → MatchOption r P Q → (P → P') → ((x : A) → Q x → Q' x) → MatchOption r P' Q'
option_map None w f g = f w
option_map (Some x) w f g = g x w

pub returns : goal.returns
unfolding still entered
returns c =
    let s = c.args.self.now in
    let q = kept c.header.result _ _ (c.in_ok-order.order, c.in_ok-order.code, c.in_ok-order.after) (sym c.ok.ensures.value ∙ c.in_ok-order.was) c.header.ensures in
    let l : length s.counts ≡ 33 = search rules in
    let e =
    ap (λ r. r.coords)
    (pending-parts s.order s.code.dim s.joins s.inner s.counts s.depth s.rest.now c.requires.between.rings c.requires.between.points
    ∙ part_headed s.code.dim s.inner s.counts s.depth s.rest.now c.requires.deep s.shallow c.requires.more c.in_ok-order.order c.in_ok-order.code c.in_ok-order.after.now l (fits-dim s.inner s.code.dim c.in_ok-order.code q.3) q.1) in
    option_map c.enter.result c.enter.ensures
    (λ p. e ∙ p.0)
    (λ _ p. record { same = p.same ∙ sym e; less = omega (arith, p.less, q.0); shorter = omega (arith, p.shorter, q.0); code = p.code })

pub returns-in_err-order : goal.returns-in_err-order
unfolding still
returns-in_err-order c =
    let s = c.args.self.now in
    let q = lost c.header.result _ _ (sym c.ok.ensures.value ∙ c.in_err-order.was) c.header.ensures in
    rw c.from_residual.ensures (ap (λ r. r.coords) (pending-parts s.order s.code.dim s.joins s.inner s.counts s.depth s.rest.now c.requires.between.rings c.requires.between.points)
    ∙ part_unheaded s.code.dim s.inner s.counts s.depth s.rest.now c.requires.deep s.shallow c.requires.more _ q.1)
