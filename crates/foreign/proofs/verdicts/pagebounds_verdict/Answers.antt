use Rattle.std.proofs.Common.{subst}
use Rattle.bounding.specs.Told.{told}
use Rattle.foreign.specs.Calls.{Rules}
use Rattle.foreign.specs.Values.{frame, kept_in, pair_of}
use Rattle.foreign.proofs.Judging.{skipped_none}
use Rattle.foreign.proofs.verdicts.pagebounds_verdict.Goals as goal

pub returns-in-Ok-clause-skipped : goal.returns-in-Ok-clause-skipped
returns-in-Ok-clause-skipped c =
    let w = frame c.args.window.now in
    let h = pair_of c.args.hint.now in
    let page = c.args.page.now in
    rw c.in-Ok.ensures.0 (λ e. skipped_none w h page (subst (Rules w (told h (kept_in page))) e c.in-Ok.ensures.1))
