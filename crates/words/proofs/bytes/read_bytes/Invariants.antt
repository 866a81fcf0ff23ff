use Rattle.words.proofs.Pairs.{Front}
use Rattle.words.proofs.bytes.read_bytes.Given as goal

-- each byte so far is what its pair of digits writes
abbrev pub invariant-loop-high : goal.invariant-loop-high
invariant-loop-high l = Front l.pairs l.high-index l.found.items
