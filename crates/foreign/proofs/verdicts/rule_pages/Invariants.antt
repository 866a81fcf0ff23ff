use Rattle.std.proofs.Common.{ℕ, ◌<◌, get_or}
use Rattle.foreign.specs.Calls.{PageByte}
use Rattle.foreign.specs.Values.{frame, pair_of, wraps}
use Rattle.foreign.specs.declared.raw.RawRecord.{RawRecord}
use Rattle.foreign.proofs.verdicts.rule_pages.Given as goal

-- the pages before i have their bytes
abbrev pub invariant-loop-i : goal.invariant-loop-i
invariant-loop-i l =
    (k : ℕ) (d : RawRecord) → k < l.i
    → PageByte (wraps l.window) (frame l.window) (pair_of l.hint) (get_or l.pages k d) (get_or l.verdicts k 0)
