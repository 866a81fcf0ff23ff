use Rattle.std.proofs.Common.{false}
use Rattle.shapes.specs.Wkb.{points}
use Rattle.shapes.proofs.Reading.{err-stop, counted-follow, counted-cut}
use Rattle.shapes.proofs.wkb.check_line.Goals as goal

pub returns-in_err-n : goal.returns-in_err-n
returns-in_err-n c =
    let b = c.args.bytes.now in
    let q = c.in_err-n.ensures in
    err-stop _ _ _ _ c.from_residual.ensures.1 (counted-cut c.args.order (points c.args.order c.args.dim false) b _ q.0 q.1)

pub returns : goal.returns
returns c =
    let q = c.in_ok-n.ensures in
    counted-follow c.args.order (points c.args.order c.args.dim false) c.args.bytes.now c.in_ok-n.n c.in_ok-n.rest.now q.0 q.1 q.2 c.check_points.result (c.check_points.ensures c.args.order false)
