use Rattle.std.proofs.Common.{◌∙◌}
use Rattle.interval.specs.Pairs.{ends}
use Rattle.bounding.proofs.Walks.{no_shapes}
use Rattle.bounding.proofs.bounder.GeometryBounder.start.Goals as goal

pub returns-clause-fresh : goal.returns-clause-fresh
returns-clause-fresh c = c.empty.ensures ∙ no_shapes (ends c.args.self.hint)
