use Rattle.std.proofs.Common.{◌≡◌, ◌-◌, get_or, refl, sym, ap, ◌∙◌, arith}
use Rattle.shapes.specs.declared.code.Kind.TheVariants.{Collection}
use Rattle.shapes.specs.Pending.{still, parts}
use Rattle.shapes.proofs.Cursors.{pending-parts, parts-pop}
use Rattle.shapes.proofs.state.Cursor.step.Goals as goal

pub returns-in_err-innermost : goal.returns-in_err-innermost
unfolding still parts
returns-in_err-innermost c =
    let s = c.args.self.now in
    let e31 : get_or s.counts 31 0 ≡ 0 = omega (arith, c.if-self-gt0.false) in
    let z : s.depth ≡ 0 = omega (arith, c.in_err-innermost.ensures) in
    rw c.from_residual.ensures
    (ap (λ r. r.coords) (pending-parts s.order s.code.dim s.joins s.inner s.counts s.depth s.rest.now e31 c.requires)
    ∙ ap (λ m. (parts s.code.dim s.inner s.counts m s.rest.now).coords) z)

pub returns : goal.returns
unfolding still
returns c =
    let s = c.args.self.now in
    let d = s.code.dim in
    let i = c.in_ok-innermost.ensures in
    let e31 : get_or s.counts 31 0 ≡ 0 = omega (arith, c.if-self-gt0.false) in
    let done : get_or s.counts (s.depth - 1) 0 ≡ 0 = ap (λ n. get_or s.counts n 0) (sym i.1) ∙ omega (arith, c.if-self-innermost-gt0.false) in
    record {
      same =
          ap (λ r. r.coords)
          (pending-parts s.order d s.joins Collection s.counts c.in_ok-innermost.innermost s.rest.now e31 c.requires
          ∙ sym (pending-parts s.order d s.joins s.inner s.counts s.depth s.rest.now e31 c.requires
          ∙ parts-pop d s.inner s.counts s.depth s.rest.now i.0 done ∙ ap (λ n. parts d Collection s.counts n s.rest.now) (sym i.1)));
      less = omega (arith, i.0, i.1);
      shorter = omega arith;
      code = refl;
    }
