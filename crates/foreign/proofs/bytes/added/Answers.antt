use Rattle.std.proofs.Common.{refl, ap, ◌∙◌}
use Rattle.interval.specs.Pairs.{ends}
use Rattle.shapes.specs.Wkb.{decode}
use Rattle.foreign.specs.Calls.{shapes_in}
use Rattle.foreign.specs.Values.{raw_record}
use Rattle.foreign.proofs.bytes.added.Goals as goal

pub returns : goal.returns
returns c =
    let held = c.in_ok-kept.ensures in
    let shape = c.in_ok-shape.ensures in (
      rw (held.0, shape.0) refl,
      λ ss e. c.into.ensures ∙ ap raw_record (c.merge.ensures.law (ends c.args.hint) ss (shapes_in (decode c.args.bytes.now)) (held.1 ∙ e) shape.1),
    )
