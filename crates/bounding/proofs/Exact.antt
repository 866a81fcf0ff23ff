-- What hulls and runs are.
use Rattle.std.proofs.Common.{◌≡◌, Bool, true, false, cond, T, List, [], ◌∷◌, ◌++◌, sym, refl, ap, ◌∙◌, subst, inl, inr}
use mathlib.Core.List.Memᴰ
use mathlib.Core.List.{Memᴰ}
use lib.Ieee.{Float, le, is_nan}
use lib.Ieee.Fits.{and_i}
use Rattle.std.proofs.lemmas.Bool.{cases_Bool, cond_both}
use Rattle.std.proofs.lemmas.Float.{T_from_true, T_from_false}
use Rattle.interval.specs.Pairs.{Pair, pair}
use Rattle.interval.specs.Ordinary.{merged}
use Rattle.shapes.specs.declared.coord.Coord.{Coord}
use Rattle.bounding.specs.Runs.{Run, Axis, joining, later, runs, hull}
use Rattle.bounding.specs.Laws.{HasValue, Attained, HullsExact, Joined, Begun, concat, RunsExact}
use Rattle.bounding.proofs.Merging.{nan-merged, merged-nothing}
use Rattle.bounding.proofs.Gathers.{hull-plain}
use Rattle.bounding.proofs.Covers.{hull-value, hull-none, value-later, run-find}

-- ---- hulls
down : (f : Axis) (c : Coord) (r : Run) {x : Float} → Attained f r x → Attained f (c ∷ r) x
down f c r a = (a.0, Memᴰ.tail a.1, a.2)

attained : (f : Axis) (r : Run) → HasValue f r → Attained f r (hull f r).lo × Attained f r (hull f r).hi
unfolding hull
attained f [] v = elim v.1 [ ]
attained f (c ∷ r) v =
    let deep = attained f r in
    let here : Attained f (c ∷ r) (f c) = (c, Memᴰ.head refl, refl) in
    let both = λ (e : Pair). Attained f (c ∷ r) e.lo × Attained f (c ∷ r) e.hi in
    elim (cases_Bool (is_nan (f c))) [
      | inl e ↦
          let a = deep (value-later f c r e v) in
          subst both (sym (nan-merged (f c) (hull f r) (T_from_true _ e) (hull-plain f r))) (down f c r a.0, down f c r a.1)
      | inr e ↦
          let p = T_from_false _ e in
          elim (run-find f r) [
            | inl n ↦ subst both (sym (ap (merged (pair (f c) (f c))) (hull-none f r n) ∙ merged-nothing (pair (f c) (f c)) (record { low = p; high = p }))) (here, here)
            | inr w ↦
                let a = deep w in
                (cond_both _ _ _ (Attained f (c ∷ r)) (λ _. here) (λ _. down f c r a.0), cond_both _ _ _ (Attained f (c ∷ r)) (λ _. here) (λ _. down f c r a.1))
          ]
    ]

pub hulls-exact : HullsExact
hulls-exact f r = elim (run-find f r) [
  | inl n ↦ inl (n, hull-none f r n)
  | inr v ↦
      let a = attained f r v in
      inr (record { lowest = a.0; highest = a.1; holds = λ c m n. let k = hull-value f r c m n in and_i (le (hull f r).lo (f c)) (le (f c) (hull f r).hi) k.low k.high })
]

-- ---- runs
joining-joined : (cs : List Coord) → Joined (joining cs)
unfolding joining
joining-joined [] c = λ m. elim m [ ]
joining-joined (d ∷ cs) c =
    let rest = joining-joined cs c in
    cond_both d.joins (d ∷ joining cs) [] (λ l. Memᴰ c l → T c.joins) (λ e m. elim (Memᴰ.cases_cons m) [ inl h ↦ rw h (T_from_true _ e) | inr n ↦ rest n ]) (λ _ m. elim m [ ])

begun : (cs : List Coord) (q : Run) → Memᴰ q (later cs) → Begun q
unfolding later
begun [] q = λ m. elim m [ ]
begun (d ∷ cs) q =
    let rest = begun cs q in
    cond_both d.joins (later cs) ((d ∷ joining cs) ∷ later cs) (λ l. Memᴰ q l → Begun q) (λ _. rest)
    (λ e m. elim (Memᴰ.cases_cons m) [ inl h ↦ subst Begun (sym h) (T_from_false _ e, joining-joined cs) | inr n ↦ rest n ])

whole : (cs : List Coord) → joining cs ++ concat (later cs) ≡ cs
unfolding joining later concat
whole [] = refl
whole (d ∷ cs) = go d.joins (whole cs)
  where
    go : (b : Bool) → joining cs ++ concat (later cs) ≡ cs → cond b (d ∷ joining cs) [] ++ concat (cond b (later cs) ((d ∷ joining cs) ∷ later cs)) ≡ d ∷ cs
    go true e = ap (λ (z : List Coord). d ∷ z) e
    go false e = ap (λ (z : List Coord). d ∷ z) e

pub runs-exact : RunsExact
unfolding runs concat
runs-exact [] = (refl, tt)
runs-exact (c ∷ cs) = (ap (λ (z : List Coord). c ∷ z) (whole cs), (joining-joined cs, begun cs))
