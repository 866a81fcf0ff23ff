use Rattle.std.proofs.Common.{Ok}
use Rattle.shapes.specs.Wkb.{times, line}
use Rattle.shapes.proofs.Reading.{err-stop, counted-follow, counted-cut, turned-more, turned-fails, turned-all}
use Rattle.shapes.proofs.wkb.check_polygon.Goals as goal

pub returns-in_err-n : goal.returns-in_err-n
returns-in_err-n c =
    let q = c.in_err-n.ensures in
    err-stop _ _ _ _ c.from_residual.ensures.1 (counted-cut c.args.order (times (line c.args.order c.args.dim)) c.args.bytes.now _ q.0 q.1)

pub rings-preserved : goal.rings-preserved
rings-preserved c =
    turned-more (line c.args.order c.args.dim) c.in_ok-n.n c.rings.counter c.in_ok-n.rest.now c.rings.rest.now c.rings.invariant _ c.rings-test.true c.in_ok-rest.ensures

pub returns-in_err-rest : goal.returns-in_err-rest
returns-in_err-rest c =
    let r = line c.args.order c.args.dim in
    let q = c.in_ok-n.ensures in
    counted-follow c.args.order (times r) c.args.bytes.now _ _ q.0 q.1 q.2 _
    (err-stop _ _ _ _ c.from_residual-in_err-rest.ensures.1
    (turned-fails r c.in_ok-n.n c.rings.counter c.in_ok-n.rest.now c.rings.rest.now c.rings.invariant _ c.rings-test.true c.in_err-rest.ensures))

pub returns : goal.returns
returns c =
    let r = line c.args.order c.args.dim in
    let q = c.in_ok-n.ensures in
    counted-follow c.args.order (times r) c.args.bytes.now _ _ q.0 q.1 q.2 (Ok c.rings.rest)
    (turned-all r c.in_ok-n.n c.rings.counter c.in_ok-n.rest.now c.rings.rest.now c.rings.invariant c.rings-test.false)
