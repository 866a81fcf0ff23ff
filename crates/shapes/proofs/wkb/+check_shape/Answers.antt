use Rattle.std.proofs.Common.{◌-◌, Some, Ok, arith}
use Rattle.shapes.specs.Wkb.{times, shape}
use Rattle.shapes.proofs.Reading.{err-stop, counted-follow, counted-cut, turned-more, turned-fails, turned-all, shape-deep, shape-unheaded, point-follow, line-follow, polygon-follow, container-follow}
use Rattle.shapes.proofs.wkb.+check_shape.Goals as goal

pub returns-then-levels-eq0 : goal.returns-then-levels-eq0
returns-then-levels-eq0 t c = shape-deep c.args.levels c.args.outer c.args.bytes.now _ c.if-levels-eq0.true c.before-then-levels-eq0.ensures

pub returns-in_err-order : goal.returns-in_err-order
returns-in_err-order t c = err-stop _ _ _ _ c.from_residual.ensures.1 (shape-unheaded c.args.levels c.args.outer c.args.bytes.now _ (omega arith) c.in_err-order.ensures)

pub returns-in-Point : goal.returns-in-Point
returns-in-Point t c =
    let q = c.in_ok-order.ensures in
    point-follow c.args.levels c.args.outer c.args.bytes.now _ _ _ (omega arith) q.1 q.0 _ c.in-Point.is c.check_points.ensures

pub returns-in-Line : goal.returns-in-Line
returns-in-Line t c =
    let q = c.in_ok-order.ensures in
    line-follow c.args.levels c.args.outer c.args.bytes.now _ _ _ (omega arith) q.1 q.0 _ c.in-Line.is c.check_line.ensures

pub returns-in-Polygon : goal.returns-in-Polygon
returns-in-Polygon t c =
    let q = c.in_ok-order.ensures in
    polygon-follow c.args.levels c.args.outer c.args.bytes.now _ _ _ (omega arith) q.1 q.0 _ c.in-Polygon.is c.check_polygon.ensures

pub returns-in_err-n-in_default : goal.returns-in_err-n-in_default
returns-in_err-n-in_default t c =
    let q = c.in_ok-order.ensures in
    let d = c.in_default in
    let z = c.in_err-n-in_default.ensures in
    container-follow c.args.levels c.args.outer c.args.bytes.now _ _ _ (omega arith) q.1 q.0 _ d.not-Point d.not-Line d.not-Polygon
    (err-stop _ _ _ _ c.from_residual-in_err-n-in_default.ensures.1 (counted-cut c.in_ok-order.order (times (shape (c.args.levels - 1) (Some c.in_ok-order.code))) c.in_ok-order.after.now _ z.0 z.1))

pub parts-preserved : goal.parts-preserved
parts-preserved t c =
    turned-more (shape (c.args.levels - 1) (Some c.in_ok-order.code)) c.in_ok-n-in_default.n c.parts.counter c.in_ok-n-in_default.rest.now c.parts.rest.now c.parts.invariant _ c.parts-test.true c.in_ok-rest-in_default.ensures

pub returns-in_err-rest-in_default : goal.returns-in_err-rest-in_default
returns-in_err-rest-in_default t c =
    let q = c.in_ok-order.ensures in
    let d = c.in_default in
    let part = shape (c.args.levels - 1) (Some c.in_ok-order.code) in
    let z = c.in_ok-n-in_default.ensures in
    container-follow c.args.levels c.args.outer c.args.bytes.now _ _ _ (omega arith) q.1 q.0 _ d.not-Point d.not-Line d.not-Polygon
    (counted-follow c.in_ok-order.order (times part) c.in_ok-order.after.now _ _ z.0 z.1 z.2 _
    (err-stop _ _ _ _ c.from_residual-in_err-rest-in_default.ensures.1
    (turned-fails part c.in_ok-n-in_default.n c.parts.counter c.in_ok-n-in_default.rest.now c.parts.rest.now c.parts.invariant _ c.parts-test.true c.in_err-rest-in_default.ensures)))

pub returns-after-parts : goal.returns-after-parts
returns-after-parts t c =
    let q = c.in_ok-order.ensures in
    let d = c.in_default in
    let part = shape (c.args.levels - 1) (Some c.in_ok-order.code) in
    let z = c.in_ok-n-in_default.ensures in
    container-follow c.args.levels c.args.outer c.args.bytes.now _ _ _ (omega arith) q.1 q.0 (Ok c.parts.rest) d.not-Point d.not-Line d.not-Polygon
    (counted-follow c.in_ok-order.order (times part) c.in_ok-order.after.now _ _ z.0 z.1 z.2 (Ok c.parts.rest)
    (turned-all part c.in_ok-n-in_default.n c.parts.counter c.in_ok-n-in_default.rest.now c.parts.rest.now c.parts.invariant c.parts-test.false))
