use Rattle.std.proofs.Common.{ℕ, ◌+◌, ◌-◌, ◌/◌, List, ◌++◌, vec_items, sym, ap, ◌∙◌, append-nil}
use Rattle.bounding.specs.Numbers.{listed}
use Rattle.bounding.proofs.Listing.{listed-none, listed_in, listed-out}
use Rattle.bounding.proofs.records.CodeSet.numbers.Goals as goal

pub loop-at-preserved : goal.loop-at-preserved
loop-at-preserved c =
    let xs = vec_items c.loop-at.found in
    let p = c.loop-at.at in
    let b = c.loop-at.rest in
    let l = listed (28 - (p + 1)) (p + 1) (b / 2) in
    elim c.if-rest-eq1.branch [
      | goal.then-rest-eq1+in_ok-push w ↦
          (λ i. vec_items (w.found-is i) ++ l) ∙ (λ i. w.in_ok-push.ensures.items i ++ l) ∙ listed_in xs p b c.loop-at-test.true w.if-rest-eq1.true ∙ c.loop-at.invariant
      | goal.else-rest-eq1 w ↦ (λ i. vec_items (w.found-is i) ++ l) ∙ listed-out xs p b c.loop-at-test.true w.if-rest-eq1.false ∙ c.loop-at.invariant
    ]

pub returns : goal.returns
returns c =
    sym (append-nil (vec_items c.loop-at.found))
    ∙ ap (λ (z : List ℕ). vec_items c.loop-at.found ++ z) (sym (listed-none c.loop-at.at c.loop-at.rest c.loop-at-test.false))
    ∙ c.loop-at.invariant
