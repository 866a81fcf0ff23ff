use Rattle.std.proofs.Common.{◌≡◌, ap, ◌∙◌, ap₂}
use lib.Ieee.{Float}
use Rattle.std.specs.Float.{float_min, float_max}
use Rattle.std.proofs.lemmas.Float.{T_from_true, T_from_false}
use Rattle.interval.specs.Pairs.{pair}
use Rattle.interval.specs.Ordinary.{with_value}
use Rattle.shapes.specs.Columns.{spanned}
use Rattle.shapes.proofs.Spans.{lower-taken, lower-left, higher_taken, higher_left}
use Rattle.shapes.proofs.span.Span.with.Goals as goal
use Rattle.shapes.proofs.span.Span.with.Goals.{then-v-self, else-v-self, then-self-v, else-self-v}

pub returns : goal.returns
returns c =
    let v = c.f64_from_bits_with_nan-v.result in
    let s = c.args.self in
    let lo : c.if-v-self.lo ≡ float_min s.lo v =
    elim c.if-v-self.branch [ then-v-self w ↦ w.lo-is ∙ lower-taken s.lo v (T_from_true _ w.if-v-self.true) | else-v-self w ↦ w.lo-is ∙ lower-left s.lo v s.numbers.0 (T_from_false _ w.if-v-self.false) ] in
    let hi : c.if-self-v.hi ≡ float_max s.hi v =
    elim c.if-self-v.branch [ then-self-v w ↦ w.hi-is ∙ higher_taken s.hi v (T_from_true _ w.if-self-v.true) | else-self-v w ↦ w.hi-is ∙ higher_left s.hi v s.numbers.1 (T_from_false _ w.if-self-v.false) ] in
    ap₂ pair lo hi ∙ ap (λ (z : Float). with_value (spanned s) z) c.f64_from_bits_with_nan-v.ensures
