use Rattle.std.proofs.Common.{false, replicate, sym, ap, ◌∙◌}
use Rattle.shapes.specs.declared.code.Kind.TheVariants.{Collection}
use Rattle.shapes.specs.declared.endian.Endian.TheVariants.{Big}
use Rattle.shapes.specs.Pending.{still}
use Rattle.shapes.specs.Steps.{entered}
use Rattle.shapes.proofs.Cursors.{whole-headed, whole-unheaded, none-pending, shape_same, by_option}
use Rattle.shapes.proofs.Reading.{decode_is}
use Rattle.shapes.proofs.state.Cursor.new.Goals as goal

pub returns : goal.returns
unfolding still entered
returns c code coords e =
    let b = c.args.checked.bytes.now in
    let q = c.in-Ok.ensures in
    let d = decode_is b code coords e in
    let h = ap (λ r. r.coords) (whole-headed Collection (replicate 33 0) b c.in-Ok.order c.in-Ok.code c.in-Ok.after.now q.1) ∙ d.1 in
    by_option c.enter.result c.enter.ensures
    (λ p. p.1 ∙ shape_same (q.2 ∙ d.0) (none-pending Big c.in-Ok.code.dim false Collection b ∙ sym p.0 ∙ h))
    (λ _ p. shape_same (p.code ∙ q.2 ∙ d.0) (p.same ∙ h))

pub returns-in_default : goal.returns-in_default
returns-in_default c code coords e = absurd (whole-unheaded c.args.checked.bytes.now _ code coords c.in_default.ensures e)
