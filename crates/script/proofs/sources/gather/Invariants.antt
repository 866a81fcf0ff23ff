use Rattle.std.proofs.Common.{◌≡◌, ◌++◌, length, vec_items}
use Rattle.script.proofs.sources.gather.Given as goal

-- what was gathered and what is still to come
abbrev pub invariant-loop-coord : goal.invariant-loop-coord
invariant-loop-coord g l = vec_items l.coords ++ (g.S.ShapeSource.means l.source).coords ≡ (g.S.ShapeSource.means l.initial.source).coords

abbrev pub decreases-loop-coord : goal.decreases-loop-coord
decreases-loop-coord g l = length (g.S.ShapeSource.means l.source).coords
