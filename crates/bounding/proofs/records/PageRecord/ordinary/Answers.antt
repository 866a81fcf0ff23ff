use Rattle.std.proofs.Common.{not, ◌||◌, ap, ◌∙◌}
use mathlib.Core.Bool.{beq}
use lib.Ieee.{lt}
use Rattle.interval.specs.Pairs.{Pair, ends, width}
use Rattle.interval.specs.Ordinary.{contains}
use Rattle.bounding.specs.Told.{ordinary, outer}
use Rattle.bounding.specs.Walk.{kept}
use Rattle.bounding.proofs.records.PageRecord.ordinary.Goals as goal

pub returns : goal.returns
unfolding ordinary outer
returns c =
    let h = ends c.args.hint.now in
    let W = c.contains_interval.ensures.exact ∙ ap (λ (e : Pair). contains h e) c.all-all.ensures in
    let D = c.width.ensures ∙ ap width c.all-all.ensures in
    λ i. not (c.is_empty.ensures i) || not (W i) || not (beq (c.is_empty-2.ensures i) (c.is_empty-3.ensures i)) || lt (D i) (outer h (kept c.args.self.now))
