use Rattle.std.proofs.Common.{◌≡◌, length}
use Rattle.std.specs.List.{AllByRecursion}
use Rattle.shapes.specs.Pending.{still}
use Rattle.shapes.specs.Source.{InBinary64}
use Rattle.bounding.specs.Walk.{walk, kept}
use Rattle.shapes.specs.Hulls.{none}
use Rattle.bounding.proofs.Gathers.{PlainKept}
use Rattle.bounding.proofs.bounder.CountingBounder.update_wkb.Given as goal

abbrev pub invariant-loop-run : goal.invariant-loop-run
invariant-loop-run l =
    (PlainKept (kept l.initial.page) → PlainKept (kept l.page) × (walk l.middle (kept l.page) none (still l.cursor) ≡ walk l.middle (kept l.initial.page) none (still l.initial.cursor)))
    × (AllByRecursion InBinary64 (still l.cursor) → AllByRecursion InBinary64 (still l.initial.cursor))

abbrev pub decreases-loop-run : goal.decreases-loop-run
decreases-loop-run l = length (still l.cursor)
