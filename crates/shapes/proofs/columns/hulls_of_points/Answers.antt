use Rattle.std.proofs.Common.{sym, ap, ◌∙◌}
use Rattle.shapes.specs.declared.code.Dimension.{Dimension}
use Rattle.shapes.specs.Columns.{run, spanned}
use Rattle.shapes.specs.Hulls.{none, with_all}
use Rattle.shapes.proofs.Runs.{hulls-xy, hulls-xyz, hulls-xym, hulls-xyzm}
use Rattle.shapes.proofs.columns.hulls_of_points.Goals as goal

pub returns-in-Xy : goal.returns-in-Xy
returns-in-Xy c j =
    c.hulls.ensures
    ∙ hulls-xy c.args.order c.args.n c.args.bytes.now c.points_of.result.now (spanned c.pair.result.0) (spanned c.pair.result.1) (spanned c.empty-none.result) (spanned c.empty-none.result) j c.points_of.ensures c.pair.ensures.0 c.pair.ensures.1 c.empty-none.ensures c.empty-none.ensures
    ∙ ap (λ (d : Dimension). with_all none (run c.args.order d j c.args.n c.args.bytes.now)) (sym c.in-Xy.is)

pub returns-in-Xyz : goal.returns-in-Xyz
returns-in-Xyz c j =
    c.hulls-in-Xyz.ensures
    ∙ hulls-xyz c.args.order c.args.n c.args.bytes.now c.points_of-points.result.now (spanned c.pair-in-Xyz.result.0) (spanned c.pair-in-Xyz.result.1) (spanned c.pair-in-Xyz-2.result.1) (spanned c.empty-none.result) j c.points_of-points.ensures c.pair-in-Xyz.ensures.0 c.pair-in-Xyz.ensures.1 c.pair-in-Xyz-2.ensures.1 c.empty-none.ensures
    ∙ ap (λ (d : Dimension). with_all none (run c.args.order d j c.args.n c.args.bytes.now)) (sym c.in-Xyz.is)

pub returns-in-Xym : goal.returns-in-Xym
returns-in-Xym c j =
    c.hulls-in-Xym.ensures
    ∙ hulls-xym c.args.order c.args.n c.args.bytes.now c.points_of-points-in-Xym.result.now (spanned c.pair-in-Xym.result.0) (spanned c.pair-in-Xym.result.1) (spanned c.empty-none.result) (spanned c.pair-in-Xym-2.result.1) j c.points_of-points-in-Xym.ensures c.pair-in-Xym.ensures.0 c.pair-in-Xym.ensures.1 c.empty-none.ensures c.pair-in-Xym-2.ensures.1
    ∙ ap (λ (d : Dimension). with_all none (run c.args.order d j c.args.n c.args.bytes.now)) (sym c.in-Xym.is)

pub returns-in-Xyzm : goal.returns-in-Xyzm
returns-in-Xyzm c j =
    c.hulls-in-Xyzm.ensures
    ∙ hulls-xyzm c.args.order c.args.n c.args.bytes.now c.points_of-points-in-Xyzm.result.now (spanned c.pair-in-Xyzm.result.0) (spanned c.pair-in-Xyzm.result.1) (spanned c.pair-in-Xyzm-2.result.0) (spanned c.pair-in-Xyzm-2.result.1) j c.points_of-points-in-Xyzm.ensures c.pair-in-Xyzm.ensures.0 c.pair-in-Xyzm.ensures.1 c.pair-in-Xyzm-2.ensures.0 c.pair-in-Xyzm-2.ensures.1
    ∙ ap (λ (d : Dimension). with_all none (run c.args.order d j c.args.n c.args.bytes.now)) (sym c.in-Xyzm.is)
