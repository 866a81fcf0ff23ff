use Rattle.std.proofs.Common.{ap, ◌∙◌}
use Rattle.bounding.proofs.Walks.{no_shapes}
use Rattle.foreign.specs.Values.{raw_record}
use Rattle.foreign.proofs.pages.pagebounds_empty.Goals as goal

pub returns : goal.returns
returns c h = c.into.ensures ∙ ap raw_record (c.empty.ensures ∙ no_shapes h)
