use Rattle.std.proofs.Common.{◌≡◌, ◌≤◌, length, Ok, sym, ap, ◌∙◌, rules, ok_or}
use Rattle.book.specs.Answers.{told_by}
use Rattle.interval.specs.declared.kinds.Interval.{Interval}
use Rattle.interval.specs.Pairs.{ends}
use Rattle.bounding.specs.Told.{Told, told}
use Rattle.bounding.specs.Walk.{kept, answer}
use Rattle.book.specs.Standing.{Standing}
use Rattle.book.specs.Promises.{tells}
use Rattle.book.specs.Keeping.{KeptBy, hint_of}
use Rattle.book.proofs.Moves.{asked, told-got, column-record, told-truly}
use Rattle.book.proofs.held.Book.tell.Goals as goal

pub returns-in-Page-clause-step : goal.returns-in-Page-clause-step
returns-in-Page-clause-step c =
    let b = c.args.self.now in
    let within : b.closed ≤ length b.table.now = search rules in
    asked b
    (λ s k.
    ap told_by (c.ok_or.ensures.value ∙ ap (ok_or c.map.result) c.new.ensures)
    ∙ told-got k c.in-Page.n c.get.result c.map.result within c.get.ensures.lookup c.map.ensures.cases (λ x a l. search rules) ∙ ap (tells (hint_of b) s) (sym c.in-Page.is))

pub returns-in-Column : goal.returns-in-Column
returns-in-Column c =
    let b = c.args.self.now in
    let answers : (s : Standing) → KeptBy s b → Ok (answer c.tell.result) ≡ tells (hint_of b) s c.args.target = λ s k.
    ap (λ (t : Told). Ok t)
    (c.tell.ensures.exact ∙ ap (λ (h : Interval). told (ends h) (kept c.merged.result)) c.hint-hint.ensures ∙ ap (told (hint_of b)) (column-record k c.merged.result c.merged.ensures))
    ∙ ap (tells (hint_of b) s) (sym c.in-Column.is) in
    record { step = asked b answers; column = told-truly b c.args.target _ answers }
