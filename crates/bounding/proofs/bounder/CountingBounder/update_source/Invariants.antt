use Rattle.std.proofs.Common.{◌≡◌, length}
use Rattle.bounding.specs.Laws.{HeldCoords}
use Rattle.bounding.specs.Walk.{walk, kept}
use Rattle.shapes.specs.Hulls.{four, none}
use Rattle.bounding.proofs.bounder.CountingBounder.update_source.Given as goal

abbrev pub invariant-loop-c : goal.invariant-loop-c
invariant-loop-c g l =
    (walk l.middle (kept l.page) (four l.hulls) (g.S.ShapeSource.means l.source).coords ≡ walk l.middle (kept l.initial.page) none (g.S.ShapeSource.means l.initial.source).coords)
    × (HeldCoords (g.S.ShapeSource.means l.source).coords → HeldCoords (g.S.ShapeSource.means l.initial.source).coords)

abbrev pub decreases-loop-c : goal.decreases-loop-c
decreases-loop-c g l = length (g.S.ShapeSource.means l.source).coords
