use Rattle.std.proofs.Common.{◌≡◌, ◌<◌, length, take, refl, ap, ◌∙◌, sym, arith, rules, min, length-take}
use Rattle.interval.specs.Pairs.{ends}
use Rattle.book.specs.declared.requests.Request.TheVariants.{Opening}
use Rattle.book.proofs.Turns.{next_same, rest_same, played-none, played-more, replayed}
use Rattle.book.proofs.calls.replay.Goals as goal

pub loop-i-init : goal.loop-i-init
loop-i-init g c = record { played = played-none _ _ _ c.new-book.result c.args.requests.now c.args.replies.now c.new-book.ensures.kept; rest = refl }

pub loop-i-preserved : goal.loop-i-preserved
loop-i-preserved g c =
    let i = c.loop-i.i in
    let n = c.min-n.result in
    let asked = c.args.requests.now in
    let inv = c.loop-i.invariant in
    let within = simp length-take at c.loop-i-test.true in
    let below : i < n = omega arith in
    let inside : i < length asked = omega arith in
    let room : i < length c.loop-i.replies = omega arith in
    record {
      played = played-more inv.played _ c.answer.result inside room (next_same c.loop-i.request-items asked n i c.request-item.result Opening inv.rest below inside) c.answer.ensures;
      rest = rest_same c.loop-i.request-items (take n asked) i c.answer.new.request inv.rest;
    }

pub returns : goal.returns
returns g c =
    let past = simp length-take at c.loop-i-test.false in
    let within = simp length-take at c.loop-i.auto.i-end in
    let done : c.loop-i.i ≡ c.min-n.result = omega arith in
    replayed (ends c.args.hint) c.args.table.now _ c.loop-i.invariant.played done
    (c.min-n.ensures ∙ ap (min (length c.args.requests.now)) (sym c.loop-i.auto.replies)) c.new-book.ensures.hint c.new-book.ensures.table (search rules)
