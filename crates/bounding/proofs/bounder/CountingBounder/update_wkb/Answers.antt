use Rattle.std.proofs.Common.{◌≡◌, ◌^◌, List, [], ◌∷◌, sym, ap, ◌∙◌, subst, rules}
use mathlib.Core.List.{Memᴰ}
use Rattle.std.specs.List.{AllByRecursion}
use Rattle.interval.specs.Pairs.{ends}
use Rattle.shapes.specs.declared.coord.Coord.{Coord}
use Rattle.shapes.specs.Pending.{still, shape_of}
use Rattle.shapes.specs.Source.{Shape, InBinary64}
use Rattle.shapes.specs.Wkb.{code_at, coords_in, decode}
use Rattle.bounding.specs.Laws.{HeldCoords}
use Rattle.bounding.specs.Record.{Kept, place}
use Rattle.shapes.specs.Hulls.{four, none}
use Rattle.bounding.specs.Walk.{walk, kept, mark}
use Rattle.bounding.proofs.Walks.{walk-run, runs-add}
use Rattle.bounding.proofs.Gathers.{PlainKept}
use Rattle.bounding.proofs.bounder.CountingBounder.update_wkb.Goals as goal

held : (cs : List Coord) → AllByRecursion InBinary64 cs → HeldCoords cs
held [] h d m = elim m [ ]
held (c ∷ cs) h d (Memᴰ.head e) = subst InBinary64 (sym e) h.0
held (c ∷ cs) h d (Memᴰ.tail m) = held cs h.1 d m

pub loop-run-preserved : goal.loop-run-preserved
loop-run-preserved c =
    let t = c.divide-middle.result in
    let k = kept c.loop-run.page in
    let h = four c.in-Some.run' in
    let taken = c.in-Some.ensures in
    let rest = still c.next_run.new.self in
    let e = c.settled-page.ensures in (
      λ p.
          let q = c.loop-run.invariant.0 p in
          let w = walk-run t k h taken.first taken.others rest (still c.loop-run.cursor) q.0 taken.run taken.joined taken.ended taken.hulls in
          (subst PlainKept (sym e) w.0, ap (λ (z : Kept). walk t z none rest) e ∙ w.1 ∙ q.1),
      λ _. c.loop-run.invariant.1 taken.held,
    )

pub returns-clause-adds : goal.returns-clause-adds
returns-clause-adds c =
    let b = c.args.bytes.now in
    let t = c.divide-middle.result in
    let h = ends c.args.self.now.hint in
    let k = kept c.args.self.now.kept in
    let p = kept c.loop-run.page in
    let s : Shape = record { code = code_at b; coords = coords_in b } in
    let over = c.in_default.ensures in
    let read = c.in_ok-checked.ensures.decoded in
    let opened : shape_of c.new-cursor.result ≡ s = c.new-cursor.ensures (code_at b) (coords_in b) (ap decode read.0 ∙ read.1) in
    let came = ap (λ (z : Shape). z.coords) opened in
    let code : c.code-code.result ≡ s.code = c.code-code.ensures ∙ ap (λ (z : Shape). z.code) opened in (
      read.1,
      λ ss e. ◌∙◌ {b = mark p (2 ^ place s.code)} (search rules)
          (runs-add h k p s t (still c.loop-run.cursor) (λ q. let r = c.loop-run.invariant.0 q in (r.0, r.1 ∙ ap (walk t k none) came)) over c.divide-middle.ensures ss e),
      subst HeldCoords came (held _ (c.loop-run.invariant.1 (subst (AllByRecursion InBinary64) (sym over) tt))),
    )
