use Rattle.std.proofs.Common.{◌≡◌, ℕ, List, sym, ap, ◌∙◌, rules}
use Rattle.shapes.specs.Wkb.{decode}
use Rattle.book.specs.declared.requests.Done.TheVariants as Done
use Rattle.book.specs.Answers.{brought_by}
use Rattle.book.specs.Replay.{reply, telling, sifting}
use Rattle.book.proofs.Moves.{reworded, brought}
use Rattle.book.proofs.Turns.{slipped, spent, slipped-given, reply-added, spent-returned, at-request}
use Rattle.book.proofs.calls.answer.Goals as goal

pub returns-in-Opening : goal.returns-in-Opening
returns-in-Opening g c =
    let is : c.map.result ≡ slipped c.open.result = search rules in
    at-request _ _ _ _ c.in-Opening.is (reworded c.open.ensures (λ h k e. is ∙ ap slipped e ∙ slipped-given _ _))

pub returns-in-Retaking : goal.returns-in-Retaking
returns-in-Retaking g c =
    let is : c.map-in-Retaking.result ≡ slipped c.retake.result = search rules in
    at-request _ _ _ _ c.in-Retaking.is (reworded c.retake.ensures (λ h k e. is ∙ ap slipped e ∙ slipped-given _ _))

pub returns-in-Adding : goal.returns-in-Adding
returns-in-Adding g c =
    let is : c.map-in-Adding.result ≡ reply Done.Added c.add-added.result = search rules in
    at-request _ _ _ _ c.in-Adding.is (reworded c.add-added.ensures.step (λ h k e. is ∙ ap (reply Done.Added) e ∙ reply-added Done.Added _))

pub returns-in-AddingBytes : goal.returns-in-AddingBytes
returns-in-AddingBytes g c =
    let is : c.map-in-AddingBytes.result ≡ reply Done.Added c.add_wkb-added.result = search rules in
    let same = ap (λ (l : List ℕ). brought_by (decode l)) (sym c.deref.ensures.value) in
    at-request _ _ _ _ c.in-AddingBytes.is (reworded (brought _ _ _ _ _ _ same c.add_wkb-added.ensures) (λ h k e. is ∙ ap (reply Done.Added) e ∙ reply-added Done.Added _))

pub returns-in-Closing : goal.returns-in-Closing
returns-in-Closing g c =
    let is : c.map_err.result ≡ spent Done.Closed c.close.result = search rules in
    at-request _ _ _ _ c.in-Closing.is (reworded c.close.ensures (λ h k e. is ∙ ap (spent Done.Closed) e ∙ spent-returned Done.Closed _ _))

pub returns-in-Discarding : goal.returns-in-Discarding
returns-in-Discarding g c =
    let is : c.map_err-in-Discarding.result ≡ spent Done.Discarded c.discard.result = search rules in
    at-request _ _ _ _ c.in-Discarding.is (reworded c.discard.ensures (λ h k e. is ∙ ap (spent Done.Discarded) e ∙ spent-returned Done.Discarded _ _))

pub returns-in-Telling : goal.returns-in-Telling
returns-in-Telling g c =
    let is : c.map-in-Telling.result ≡ telling c.tell.result = search rules in
    at-request _ _ _ _ c.in-Telling.is (reworded c.tell.ensures.step (λ h k e. (c.tell.result, is, e, λ t q r. c.tell.ensures.column t q r h k)))

pub returns-in-Sifting : goal.returns-in-Sifting
returns-in-Sifting g c =
    let is : c.map-in-Sifting.result ≡ sifting c.sift.result = search rules in
    at-request _ _ _ _ c.in-Sifting.is (reworded c.sift.ensures.step (λ h k e. (c.sift.result, is, e, λ r. c.sift.ensures.skipped r h k)))
