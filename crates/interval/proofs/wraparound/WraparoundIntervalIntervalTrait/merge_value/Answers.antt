use Rattle.std.proofs.Common.{arith, rules}
use Rattle.interval.specs.Wraparound.{with_value}
use Rattle.interval.proofs.Covers.{added-answer}
use Rattle.interval.proofs.wraparound.WraparoundIntervalIntervalTrait.merge_value.Goals as goal

pub returns-then-intersects_value-is_nan-clause-exact : goal.returns-then-intersects_value-is_nan-clause-exact
unfolding with_value
returns-then-intersects_value-is_nan-clause-exact c = grind arith

pub returns-then-not-is_wraparound : goal.returns-then-not-is_wraparound
unfolding with_value
returns-then-not-is_wraparound c = added-answer _ _ _ c.args.self.now.inner.held (search rules) (grind arith)

pub returns-then-value-self : goal.returns-then-value-self
unfolding with_value
returns-then-value-self c = added-answer _ _ _ c.args.self.now.inner.held (search rules) (grind arith)

pub returns-else-value-self : goal.returns-else-value-self
unfolding with_value
returns-else-value-self c = added-answer _ _ _ c.args.self.now.inner.held (search rules) (grind arith)
