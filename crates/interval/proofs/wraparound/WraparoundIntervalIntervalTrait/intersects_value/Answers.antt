use Rattle.std.proofs.Common.{◌≡◌, ◌||◌, ◌∙◌, rules}
use Rattle.number.specs.Values.{Held}
use Rattle.interval.specs.Pairs.{inner_ends, between}
use Rattle.interval.specs.Wraparound.{left, right}
use Rattle.interval.proofs.Wraps.{parts}
use Rattle.interval.proofs.wraparound.WraparoundIntervalIntervalTrait.intersects_value.Goals as goal

pub returns : goal.returns
returns c =
    let s = c.args.self.now in
    let v = c.args.value in
    let h : Held v = search rules in
    let split : (c.intersects_value.result || c.intersects_value-2.result) ≡ (between (left (inner_ends s)) v || between (right (inner_ends s)) v) =
    (λ i. c.intersects_value.ensures i || c.intersects_value-2.ensures i) ∙ (λ i. between (c.split.ensures.left i) v || between (c.split.ensures.right i) v) in
    split ∙ parts (inner_ends s) v s.inner.held h
