use Rattle.std.proofs.Common.{ℕ, Ok, Err, sym, subst}
use Rattle.std.proofs.lemmas.Result.{err_from_is_err_and}
use Rattle.bounding.specs.Told.{told}
use Rattle.bounding.specs.Walk.{answer, kept}
use Rattle.foreign.specs.Calls.{Rules}
use Rattle.foreign.specs.Values.{frame, kept_in}
use Rattle.foreign.proofs.Judging.{judged}
use Rattle.foreign.proofs.question.Question.verdict.Goals as goal

pub returns : goal.returns
returns c w h poses =
    let page = c.args.page.now in
    let held = c.in_ok-kept.ensures in
    let (e, rules) = judged w h c.args.self.now poses page (kept c.in_ok-kept.kept) (answer c.tell.result) held.0 held.1 c.tell.ensures.exact (Ok c.in_ok-verdict.verdict) c.in_ok-verdict.ensures in
    (e, subst (λ (b : ℕ). Rules (frame w) (told h (kept_in page)) b) (sym c.byte_of.ensures) rules)

pub returns-in_err-verdict : goal.returns-in_err-verdict
returns-in_err-verdict c w h poses =
    let held = c.in_ok-kept.ensures in
    let p = err_from_is_err_and c.from_residual-in_err-verdict.result c.from_residual-in_err-verdict.ensures.1 in
    rw (p.1, p.2) (judged w h c.args.self.now poses c.args.page.now (kept c.in_ok-kept.kept) (answer c.tell.result) held.0 held.1 c.tell.ensures.exact (Err c.in_err-verdict.field-0.0) c.in_err-verdict.ensures)
