use Rattle.std.proofs.Common.{◌*◌, ap}
use Rattle.shapes.proofs.Reading.{points-follow}
use Rattle.shapes.proofs.wkb.check_points.Goals as goal

pub returns : goal.returns
returns c = points-follow c.args.dim c.args.n _ c.args.bytes.now c.skip_eights.result (ap (λ w. c.args.n * w) c.width.ensures) c.skip_eights.ensures
