use Rattle.std.proofs.Common.{◌≡◌, take}
use Rattle.std.specs.List.{fold}
use Rattle.shapes.specs.Columns.{spanned, with_bits}
use Rattle.shapes.proofs.span.Span.with_all.Given as goal

abbrev pub invariant-loop-bits : goal.invariant-loop-bits
invariant-loop-bits l = spanned l.self ≡ fold with_bits (spanned l.fn.self) (take l.bits-index l.bits-items)
