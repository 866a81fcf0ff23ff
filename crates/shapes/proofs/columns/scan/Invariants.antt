use Rattle.std.proofs.Common.{◌≡◌, ◌+◌, ◌*◌, ◌/◌, length, take}
use Rattle.shapes.specs.Columns.{column_of, spanned}
use Rattle.shapes.proofs.columns.scan.Given as goal

abbrev pub invariant-loop-four : goal.invariant-loop-four
invariant-loop-four g l =
    (spanned l.a ≡ column_of l.order l.at (take (4 * l.four-index) l.points))
    × (spanned l.b ≡ column_of l.order (l.at + 8) (take (4 * l.four-index) l.points))

abbrev pub invariant-loop-p : goal.invariant-loop-p
invariant-loop-p g l =
    (spanned l.a ≡ column_of l.order l.at (take (4 * (length l.points / 4) + l.p-index) l.points))
    × (spanned l.b ≡ column_of l.order (l.at + 8) (take (4 * (length l.points / 4) + l.p-index) l.points))
