use Rattle.std.proofs.Common.{◌≡◌, ◌+◌, ◌*◌, ◌/◌, ◌<◌, length, get_or, drop, take, ap, ◌∙◌, arith, mul_comm}
use Rattle.std.proofs.lemmas.List.{get_or-drop}
use Rattle.std.specs.Simd.{first_chunks}
use Rattle.shapes.specs.Columns.{column_of, spanned}
use Rattle.shapes.proofs.Spans.{four_more, one_more}
use Rattle.shapes.proofs.columns.scan.Goals as goal

pub loop-four-preserved : goal.loop-four-preserved
loop-four-preserved g c =
    let o = c.args.order in
    let ps = c.args.points.now in
    let i = c.loop-four.four-index in
    let h : i < length ps / 4 = omega (arith, c.as_chunks.ensures.front_len, c.loop-four-test.true) in
    let four = c.four-item.result in
    let e : four ≡ get_or (first_chunks 4 (length ps / 4) ps) i four = c.four-item.is ∙ ap (λ l. get_or l i four) {y = first_chunks 4 (length ps / 4) ps} c.as_chunks.ensures.front in (
      four_more o c.args.at ps i (length ps / 4) four c.ordinates-x.result (spanned c.loop-four.a) _ h e c.ordinates-x.ensures c.loop-four.invariant.0 c.block.ensures.0,
      four_more o (c.args.at + 8) ps i (length ps / 4) four c.ordinates-y.result (spanned c.loop-four.b) _ h e c.ordinates-y.ensures c.loop-four.invariant.1 c.block.ensures.1,
    )

pub loop-p-preserved : goal.loop-p-preserved
loop-p-preserved g c =
    let o = c.args.order in
    let ps = c.args.points.now in
    let m = 4 * (length ps / 4) in
    let i = c.loop-p.p-index in
    let h : m + i < length ps = omega (arith, c.as_chunks.ensures.back_len, c.loop-p-test.true) in
    let e : c.p-item.result ≡ get_or ps (m + i) c.p-item.result =
    c.p-item.is ∙ ap (λ l. get_or l i c.p-item.result) (c.as_chunks.ensures.back ∙ ap (λ k. drop k ps) (mul_comm (length ps / 4) 4)) ∙ get_or-drop m ps i c.p-item.result in
    let s : m + i + 1 ≡ m + (i + 1) = omega arith in (
      one_more o c.args.at ps (m + i) c.bits_at.result c.p-item.result (spanned c.loop-p.a) _ h e c.bits_at.ensures c.loop-p.invariant.0 c.with-a.ensures ∙ ap (λ k. column_of o c.args.at (take k ps)) s,
      one_more o (c.args.at + 8) ps (m + i) c.bits_at-in-loop-p.result c.p-item.result (spanned c.loop-p.b) _ h e c.bits_at-in-loop-p.ensures c.loop-p.invariant.1 c.with-b.ensures ∙ ap (λ k. column_of o (c.args.at + 8) (take k ps)) s,
    )
