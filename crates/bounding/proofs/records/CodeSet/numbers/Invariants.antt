use Rattle.std.proofs.Common.{◌≡◌, ◌-◌, ◌++◌, vec_items}
use Rattle.bounding.specs.Numbers.{listed}
use Rattle.bounding.proofs.records.CodeSet.numbers.Given as goal

abbrev pub invariant-loop-at : goal.invariant-loop-at
invariant-loop-at l = vec_items l.found ++ listed (28 - l.at) l.at l.rest ≡ listed 28 0 l.initial.rest
