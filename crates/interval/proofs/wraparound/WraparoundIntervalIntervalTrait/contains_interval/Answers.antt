use Rattle.std.proofs.Common.{arith}
use Rattle.interval.specs.Wraparound.{contains}
use Rattle.interval.proofs.Literals.{highest-bits, lowest-bits}
use Rattle.interval.proofs.Covers.{contains-answer}
use Rattle.interval.proofs.wraparound.WraparoundIntervalIntervalTrait.contains_interval.Goals as goal

pub returns-in-true-true : goal.returns-in-true-true
unfolding contains
returns-in-true-true c = contains-answer _ _ _ c.args.self.now.inner.held c.args.other.now.inner.held (grind arith)

pub returns-in-true-false : goal.returns-in-true-false
unfolding contains
returns-in-true-false c = contains-answer _ _ _ c.args.self.now.inner.held c.args.other.now.inner.held (grind (arith, lowest-bits))

pub returns-in-false-true : goal.returns-in-false-true
unfolding contains
returns-in-false-true c = contains-answer _ _ _ c.args.self.now.inner.held c.args.other.now.inner.held (grind (arith, lowest-bits, highest-bits))

pub returns-in-false-false : goal.returns-in-false-false
unfolding contains
returns-in-false-false c = contains-answer _ _ _ c.args.self.now.inner.held c.args.other.now.inner.held (grind arith)
