use Rattle.std.proofs.Common.{length, get_or}
use Rattle.foreign.specs.Calls.{PageBytes, verdicts_refusal}
use Rattle.foreign.specs.Values.{frame, pair_of, wraps}
use Rattle.foreign.proofs.Judging.{byte_skips, unless-gives}
use Rattle.foreign.proofs.verdicts.pagebounds_verdicts.Goals as goal

pub returns-in-Ok-clause-skipped : goal.returns-in-Ok-clause-skipped
returns-in-Ok-clause-skipped c =
    let raw = c.args.window.now in
    let w = frame raw in
    let h = pair_of c.args.hint.now in
    let rs = c.args.pages.now in
    let bs = c.rule_pages.new.verdicts in
    unless-gives (verdicts_refusal raw (length rs) (length c.args.verdicts.now)) (PageBytes (wraps raw) w h rs bs) _ _ c.rule_pages.ensures.verdicts (λ bytes k d lt e. byte_skips (wraps raw) w h (get_or rs k d) (get_or bs k 0) (bytes k d lt) e)
