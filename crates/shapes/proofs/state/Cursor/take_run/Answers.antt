use Rattle.std.proofs.Common.{◌≡◌, ℕ, ◌+◌, ◌-◌, ◌*◌, ◌<◌, ◌≤◌, true, length, get_or, drop, refl, ap, ◌∙◌, subst, arith, length-drop, rules}
use Rattle.std.proofs.lemmas.List.{take_rest}
use Rattle.shapes.specs.Codes.{width}
use Rattle.shapes.specs.Columns.{run}
use Rattle.shapes.specs.Hulls.{none, with_all}
use Rattle.shapes.specs.Numbers.{coord_at}
use Rattle.shapes.specs.Pending.{still}
use Rattle.shapes.proofs.Cursors.{coord-cut}
use Rattle.shapes.proofs.Runs.{give-run, run-over, run-joined, run-first}
use Rattle.shapes.proofs.Sound.{cursor_all_held}
use Rattle.shapes.proofs.state.Cursor.take_run.Goals as goal

pub returns-then-n-eq0 : goal.returns-then-n-eq0
unfolding still
returns-then-n-eq0 c =
    let s = c.args.self.now in
    let b = s.rest.now in
    let d = s.code.dim in
    let h : c.points_there-n.result < get_or s.counts 32 0 = omega (arith, c.if-n-eq0.true, c.requires) in
    let cut : length b < 0 * (8 * width d) + 8 * width d = subst (λ (r : ℕ). length b < r * (8 * width d) + 8 * width d) c.if-n-eq0.true
    (subst (λ (m : ℕ). length b < c.points_there-n.result * (8 * m) + 8 * m) c.width-size.ensures (c.points_there-n.ensures.cut h)) in
    let w : length b < 8 * width d = omega arith in
    coord-cut s.order d s.joins _ _ b c.requires w

pub returns : goal.returns
unfolding still
returns c =
    let s = c.args.self.now in
    let b = s.rest.now in
    let o = s.order in
    let d = s.code.dim in
    let k = c.points_there-n.result in
    let l : length s.counts ≡ 33 = search rules in
    let some : 0 < k = omega (arith, c.if-n-eq0.false) in
    let there : k * (8 * width d) ≤ length b = subst (λ (m : ℕ). k * (8 * m) ≤ length b) c.width-size.ensures c.points_there-n.ensures.there in
    let few = c.points_there-n.ensures.few in
    let r = take_rest b (k * (8 * c.width-size.result)) ∙ ap (λ (m : ℕ). drop (k * (8 * m)) b) c.width-size.ensures in
    let cut : k < get_or s.counts 32 0 → length b < k * (8 * width d) + 8 * width d = λ h. subst (λ (m : ℕ). length b < k * (8 * m) + 8 * m) c.width-size.ensures (c.points_there-n.ensures.cut h) in
    record {
      first = coord_at o d s.joins b;
      others = run o d true (k - 1) (drop (8 * width d) b);
      run = give-run o d s.inner s.counts s.depth k _ l s.shallow few s.joins b some there r;
      joined = run-joined o d (k - 1) (drop (8 * width d) b);
      ended = run-over o d s.inner s.counts s.depth k _ l s.shallow few (λ h. omega (arith, cut h, there, ap length r, length-drop (k * (8 * width d)) b));
      hulls = c.hulls_of_points-hulls.ensures s.joins ∙ ap (with_all none) (run-first o d s.joins k b some);
      held = cursor_all_held s;
      code = refl;
    }
