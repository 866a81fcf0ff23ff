use Rattle.std.proofs.Common.{◌≡◌, false, arith, rules}
use Rattle.number.specs.Values.{Held}
use Rattle.interval.specs.Pairs.{ends}
use Rattle.interval.specs.Ordinary.{expanded, unmoved}
use Rattle.interval.proofs.Literals.{zero_bits}
use Rattle.interval.proofs.Between.{moves}
use Rattle.interval.proofs.ordinary.IntervalIntervalTrait.expand_by.Goals as goal

pub returns-then-is_empty-is_nan-clause-exact : goal.returns-then-is_empty-is_nan-clause-exact
unfolding expanded
returns-then-is_empty-is_nan-clause-exact c = grind (arith, zero_bits)

pub returns : goal.returns
unfolding expanded
returns c =
    let s = c.args.self.now in
    let d = c.args.distance in
    let h : Held d = search rules in
    let u : unmoved (ends s) d ≡ false = grind (arith, zero_bits) in
    record { law = λ f. moves (ends s) d s.held h f (grind arith) (grind arith); exact = rw u }
