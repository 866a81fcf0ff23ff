use Rattle.std.proofs.Common.{take, ap, ◌∙◌}
use Rattle.std.proofs.Math.Nat.{le-div_iff_mul-le}
use Rattle.shapes.proofs.Spans.{take-first_chunks}
use Rattle.shapes.proofs.columns.points_of.Goals as goal

pub returns : goal.returns
returns g c = ap (take c.args.n) c.as_chunks.ensures.front ∙ take-first_chunks g.row.SIZE c.args.n _ c.args.bytes.now ((le-div_iff_mul-le c.requires.some).1 c.requires.there)
