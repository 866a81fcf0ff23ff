use Rattle.std.proofs.Common.{arith, rules}
use Rattle.interval.specs.Wraparound.{expanded}
use Rattle.interval.specs.Ordinary as Ordinary
use Rattle.interval.proofs.Literals.{zero_bits}
use Rattle.interval.proofs.Covers.{expanded-answer}
use Rattle.interval.proofs.wraparound.WraparoundIntervalIntervalTrait.expand_by.Goals as goal

pub returns-then-is_empty-is_nan-clause-exact : goal.returns-then-is_empty-is_nan-clause-exact
unfolding expanded
returns-then-is_empty-is_nan-clause-exact c = grind (arith, zero_bits)

pub returns-then-not-is_wraparound : goal.returns-then-not-is_wraparound
unfolding expanded Ordinary.expanded
returns-then-not-is_wraparound c = expanded-answer _ _ _ c.args.self.now.inner.held (search rules) (grind (arith, zero_bits))

pub returns : goal.returns
unfolding expanded
returns c = expanded-answer _ _ _ c.args.self.now.inner.held (search rules) (grind (arith, zero_bits))
