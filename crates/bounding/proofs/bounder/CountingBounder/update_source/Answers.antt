use Rattle.std.proofs.Common.{◌≡◌, ◌^◌, List, [], ◌∷◌, sym, ap, ◌∙◌, subst, inl, inr, rules}
use mathlib.Core.List.Memᴰ
use mathlib.Core.List.{Memᴰ}
use lib.Ieee.{Float}
use Rattle.interval.specs.Pairs.{ends}
use Rattle.shapes.specs.declared.coord.Coord.{Coord}
use Rattle.shapes.specs.Source.{InBinary64}
use Rattle.bounding.specs.Laws.{HeldCoords}
use Rattle.bounding.specs.Record.{Kept, divide, place}
use Rattle.bounding.specs.Walk.{walk, kept, mark}
use Rattle.shapes.specs.Hulls.{Four, four, none, with}
use Rattle.shapes.specs.declared.hulls.Hulls.{Hulls}
use Rattle.bounding.proofs.Walks.{walk-join, walk-next, walk_end, walk-adds}
use Rattle.bounding.proofs.bounder.CountingBounder.update_source.Goals as goal

one_more : (c : Coord) (cs l : List Coord) → l ≡ c ∷ cs → InBinary64 c → HeldCoords cs → HeldCoords l
one_more c cs l e h k d m = elim (Memᴰ.cases_cons (subst (λ (z : List Coord). Memᴰ d z) e m)) [ inl q ↦ subst InBinary64 (sym q) h | inr n ↦ k d n ]

none_left : (l : List Coord) → l ≡ [] → HeldCoords l
none_left l e d m = elim (subst (λ (z : List Coord). Memᴰ d z) e m) [ ]

pub loop-c-preserved : goal.loop-c-preserved
loop-c-preserved g c =
    let t = c.divide-middle.result in
    let x = c.in-Some.c in
    let k = kept c.loop-c.page in
    let h = four c.loop-c.hulls in
    let cs = (g.S.ShapeSource.means c.next.new.self).coords in
    let l = (g.S.ShapeSource.means c.loop-c.source).coords in
    let e = c.in-Some.ensures.gives.0 in (
      elim c.if-not-c.branch [
        | goal.then-not-c w ↦
            (let A = ap kept w.page-is ∙ w.settled-page.ensures in
            let B = c.with-hulls.ensures ∙ ap (λ (h : Hulls). with (four h) x) w.hulls-is ∙ ap (λ (h : Four). with h x) w.empty-hulls-then-not-c.ensures in
            (λ i. walk t (A i) (B i) cs) ∙ walk-next t k h x cs l e w.if-not-c.true ∙ c.loop-c.invariant.0)
        | goal.else-not-c w ↦
            (let A = ap kept w.page-is in
            let B = c.with-hulls.ensures ∙ ap (λ (h : Hulls). with (four h) x) w.hulls-is in
            (λ i. walk t (A i) (B i) cs) ∙ walk-join t k h x cs l e w.if-not-c.false ∙ c.loop-c.invariant.0)
      ],
      λ h. c.loop-c.invariant.1 (one_more x cs l e c.in-Some.ensures.gives.3 h),
    )

pub returns-clause-adds : goal.returns-clause-adds
returns-clause-adds g c ss e =
    let s = g.S.ShapeSource.means c.args.source.now in
    let k = kept c.args.self.now.kept in
    let last = walk_end c.divide-middle.result (kept c.loop-c.page) (four c.loop-c.hulls) (g.S.ShapeSource.means c.loop-c.source).coords c.in_default.ensures.gives.0 in
    let walked : kept c.settled-last.result ≡ walk (divide (ends c.args.self.now.hint)) k none s.coords = c.settled-last.ensures ∙ last ∙ c.loop-c.invariant.0 ∙ ap (λ (t : Float). walk t k none s.coords) c.divide-middle.ensures in
    ◌∙◌ {b = mark (kept c.settled-last.result) (2 ^ place s.code)} (search rules) (ap (λ (l : Kept). mark l (2 ^ place s.code)) walked ∙ walk-adds (ends c.args.self.now.hint) k s ss e)

pub returns-clause-held : goal.returns-clause-held
returns-clause-held g c = c.loop-c.invariant.1 (none_left (g.S.ShapeSource.means c.loop-c.source).coords c.in_default.ensures.gives.0)
