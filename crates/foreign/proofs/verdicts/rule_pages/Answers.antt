use Rattle.std.proofs.Common.{◌≡◌, ℕ, ◌<◌, ◌≢◌, true, eqb, length, get_or, set, subst, arith, refl, eq-eqb, get_or-set_other, get_or-set_same, below_more}
use Rattle.std.proofs.lemmas.List.{get_or_default}
use Rattle.foreign.specs.Calls.{PageByte}
use Rattle.foreign.specs.Values.{frame, pair_of, wraps}
use Rattle.foreign.specs.declared.raw.RawRecord.{RawRecord}
use Rattle.foreign.proofs.verdicts.rule_pages.Goals as goal

pub loop-i-preserved : goal.loop-i-preserved
loop-i-preserved c k d =
    let w = c.args.window.now in
    let h = pair_of c.args.hint.now in
    let rs = c.args.pages.now in
    let i = c.loop-i.i in
    let b = c.byte.result in
    let new = set c.loop-i.verdicts i b in
    let lt : i < length rs = omega arith in
    let long : i < length c.loop-i.verdicts = omega arith in
    let (pairs, poses) = c.in_ok-question.ensures w c.in_ok-asked.ensures.1 in
    below_more (λ (j : ℕ). PageByte (wraps w) (frame w) h (get_or rs j d) (get_or new j 0)) i
    (λ j less. let ne : j ≢ i = omega arith in rw get_or-set_other (c.loop-i.invariant j d less))
    (rw get_or-set_same (subst (λ (r : RawRecord). PageByte (wraps w) (frame w) h r b) (get_or_default rs i _ d lt) (c.byte.ensures w h poses)))
    k

pub returns : goal.returns
returns c =
    let w = c.args.window.now in
    let long : eqb (length c.args.pages.now) (length c.args.verdicts.now) ≡ true = eq-eqb _ _ (omega arith) in
    let (pairs, poses) = c.in_ok-question.ensures w c.in_ok-asked.ensures.1 in
    record {
      refusal = rw (c.in_ok-asked.ensures.0, long, pairs) refl;
      verdicts = rw (c.in_ok-asked.ensures.0, long, pairs) (λ k d lt. c.loop-i.invariant k d (omega arith));
    }
