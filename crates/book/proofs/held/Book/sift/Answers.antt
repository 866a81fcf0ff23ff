use Rattle.std.proofs.Common.{◌≡◌, Ok, Result, sym, subst, rules}
use Rattle.interval.specs.declared.fault.Fault.{Fault}
use Rattle.interval.specs.Pairs.{Pair}
use Rattle.bounding.specs.Told.{Told}
use Rattle.bounding.specs.Walk.{answer}
use Rattle.book.specs.declared.states.Target.{Target}
use Rattle.book.specs.Keeping.{hint_of, size}
use Rattle.book.specs.Promises.{tells, on}
use Rattle.book.specs.Standing.{Standing, standing}
use Rattle.book.specs.Verdicts.{Upright, frame_of}
use Rattle.book.specs.Windows.{Sifted}
use Rattle.book.proofs.Judged.{told-upright, placed-in, placed-on, skipped_soundly}
use Rattle.book.proofs.Moves.{reworded}
use Rattle.book.proofs.Promised.{told-on}
use Rattle.book.proofs.held.Book.sift.Goals as goal

upright : (hint : Pair) (s : Standing) (g : Target) (t : Told) → Ok t ≡ tells hint s g → Upright t
upright hint s g t e = subst Upright (sym (told-on hint s g t (sym e))) (told-upright hint (on s g))

pub returns : goal.returns
returns q c =
    let b = c.args.self.now in
    let g = c.args.target in
    let t = answer c.in_ok-told.told in
    let w = frame_of q.K.IntervalTrait.covers c.args.window.now in
    let wrapping = q.K.IntervalTrait.WRAPS in
    let is : c.map_err.result ≡ placed-in g c.judge.result = search rules in
    let step =
    reworded c.in_ok-told.ensures.step
    (λ h k e. subst (λ (r : Result Told Fault). Sifted wrapping w g r c.map_err.result) e (placed-on wrapping w g t t.x c.judge.result c.map_err.result (c.judge.ensures (upright (hint_of b) (standing (size b) h) g t e)) is)) in
    record { step = step; skipped = skipped_soundly b w g wrapping c.map_err.result step.answers }
