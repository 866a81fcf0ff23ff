use Rattle.std.proofs.Common.{arith}
use Rattle.interval.specs.Wraparound.{merged}
use Rattle.interval.proofs.Covers.{merged-answer}
use Rattle.interval.proofs.wraparound.WraparoundIntervalIntervalTrait.merge_interval.Goals as goal

pub returns-then-is_empty : goal.returns-then-is_empty
unfolding merged
returns-then-is_empty c = merged-answer _ _ _ c.args.self.now.inner.held c.args.other.now.inner.held (grind arith)

pub returns-then-is_empty-2 : goal.returns-then-is_empty-2
unfolding merged
returns-then-is_empty-2 c = merged-answer _ _ _ c.args.self.now.inner.held c.args.other.now.inner.held (grind arith)

pub returns-in-true-true : goal.returns-in-true-true
unfolding merged
returns-in-true-true c = merged-answer _ _ _ c.args.self.now.inner.held c.args.other.now.inner.held (grind arith)

pub returns-in-true-false : goal.returns-in-true-false
unfolding merged
returns-in-true-false c = merged-answer _ _ _ c.args.self.now.inner.held c.args.other.now.inner.held (grind arith)

pub returns-in-false-true : goal.returns-in-false-true
unfolding merged
returns-in-false-true c = merged-answer _ _ _ c.args.self.now.inner.held c.args.other.now.inner.held (grind arith)

pub returns-in-false-false : goal.returns-in-false-false
unfolding merged
returns-in-false-false c = merged-answer _ _ _ c.args.self.now.inner.held c.args.other.now.inner.held (grind arith)
