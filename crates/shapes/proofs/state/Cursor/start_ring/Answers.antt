use Rattle.std.proofs.Common.{◌≡◌, length, refl, sym, ap, ◌∙◌, arith, length-drop, rules}
use Rattle.shapes.specs.Pending.{still}
use Rattle.shapes.proofs.Cursors.{kept, lost, ring-there, ring_cut}
use Rattle.shapes.proofs.state.Cursor.start_ring.Goals as goal

pub returns : goal.returns
unfolding still
returns c =
    let s = c.args.self.now in
    let q = kept c.count.result _ _ (c.in_ok-n.n, c.in_ok-n.rest) (sym c.ok.ensures.value ∙ c.in_ok-n.was) c.count.ensures in
    let l : length s.counts ≡ 33 = search rules in
    record {
      same = ap (λ r. r.coords) (ring-there s.order s.code.dim s.joins s.inner s.counts s.depth s.rest.now c.in_ok-n.n c.in_ok-n.rest.now l s.shallow c.requires.points c.requires.rings q.0 q.1 q.2);
      less = omega (arith, q.0, ap length q.2, length-drop 4 s.rest.now);
      shorter = omega (arith, q.0, ap length q.2, length-drop 4 s.rest.now);
      code = refl;
    }

pub returns-in_err-n : goal.returns-in_err-n
unfolding still
returns-in_err-n c =
    let s = c.args.self.now in
    let q = lost c.count.result _ _ (sym c.ok.ensures.value ∙ c.in_err-n.was) c.count.ensures in
    rw c.from_residual.ensures (ring_cut s.order s.code.dim s.joins s.inner s.counts s.depth s.rest.now c.requires.points c.requires.rings q.1.0)
