use Rattle.std.proofs.Common.{◌≡◌, ◌<◌, [], length, refl, length-set, rules}
use Rattle.book.specs.declared.states.Deed.TheVariants.{Begin, Again, Put, Append, Replace, Forget}
use Rattle.book.specs.declared.states.State.TheVariants.{Idle, Filling, Refilling}
use Rattle.std.proofs.Common.{Ok}
use Rattle.book.proofs.Moves.{does, refused, emptied, put-none, appended, replaced, append-writes, replace-writes}
use Rattle.book.proofs.held.Book.apply.Goals as goal

pub returns-in-Begin : goal.returns-in-Begin
returns-in-Begin c = does c.args.self.now _ c.args.asked [] Begin _ refl (search rules) refl (search rules) refl refl (λ s k. refl) (λ s k. emptied k Filling _ (search rules))

pub returns-in-Again : goal.returns-in-Again
returns-in-Again c =
    let n = c.in-Again.n in
    does c.args.self.now _ c.args.asked [] (Again n) _ refl (search rules) refl (search rules) refl refl (λ s k. refl) (λ s k. emptied k (Refilling n) _ (search rules))

pub returns-in-Put : goal.returns-in-Put
returns-in-Put c = does c.args.self.now _ c.args.asked [] Put _ refl (search rules) refl refl refl refl (λ s k. refl) (λ s k. put-none k)

pub returns-in-Append : goal.returns-in-Append
returns-in-Append c =
    let b = c.args.self.now in
    let r = c.record.result in
    let q : b.state ≡ Filling = search rules in
    let lt : b.closed < length b.table.now = search rules in
    does b _ c.args.asked [] Append _ refl (search rules) (length-set _ _ _) refl refl refl (λ s k. append-writes k r c.record.ensures q) (λ s k. appended k r c.record.ensures q lt)

pub returns-in-Replace : goal.returns-in-Replace
returns-in-Replace c =
    let b = c.args.self.now in
    let n = c.in-Replace.n in
    let r = c.record-in-Replace.result in
    let same = c.record-in-Replace.ensures in
    let q : b.state ≡ Refilling n = search rules in
    let lt : n < b.closed = search rules in
    does b _ c.args.asked [] (Replace n) _ refl (search rules) (length-set _ _ _) refl refl refl (λ s k. replace-writes k r same n q) (λ s k. replaced k r same n q lt)

pub returns-in-Forget : goal.returns-in-Forget
returns-in-Forget c = does c.args.self.now _ c.args.asked [] Forget _ refl (search rules) refl refl refl refl (λ s k. refl) (λ s k. emptied k Idle _ tt)

pub returns-in_err-ruled : goal.returns-in_err-ruled
returns-in_err-ruled c = refused c.args.self.now c.args.asked (Ok []) c.in_err-ruled.field-0.0 _ c.from_residual.ensures.1 c.in_err-ruled.ensures
