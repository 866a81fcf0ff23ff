use Rattle.std.proofs.Common.{◌≡◌, ◌+◌, ◌/◌, ◌%◌, ◌<◌, ℕ, length, inr, sym, subst, codes, rules}
use Rattle.words.proofs.Pairs.{Front, Pairs, front_more, hex_from_pairs, no_bytes}
use Rattle.words.proofs.bytes.read_bytes.Goals as goal

pub returns-in_default : goal.returns-in_default
returns-in_default c =
    let w = c.args.word.now in
    let plain : w ≡ codes "-" → ⊥ = search rules in
    let short : c.loop-high.high-index < length w / 2 = search rules in
    let pairs : Pairs w c.as_chunks.result.0.now = cc in
    no_bytes w _ pairs c.loop-high.high-index plain short c.in_default.ensures

pub loop-high-preserved : goal.loop-high-preserved
loop-high-preserved c =
    let ps = c.as_chunks.result.0.now in
    subst (Front ps (c.loop-high.high-index + 1)) (sym c.in_ok-push.ensures.items)
    (front_more ps c.loop-high.high-index c.loop-high.found.items c.in-Some.b c.loop-high.invariant c.in-Some.ensures)

pub returns : goal.returns
returns c =
    let w = c.args.word.now in
    let pairs : Pairs w c.as_chunks.result.0.now = cc in
    let even : length w % 2 ≡ 0 = search rules in
    let all : c.loop-high.high-index ≡ length w / 2 = search rules in
    inr (hex_from_pairs w c.loop-high.found.items _ pairs even (subst (λ (n : ℕ). Front c.as_chunks.result.0.now n c.loop-high.found.items) all c.loop-high.invariant))
