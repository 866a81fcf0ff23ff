-- The walk over a shape's coordinates gives its record.
use Rattle.std.proofs.Common.{◌≡◌, ◌^◌, Bool, true, false, cond, List, [], ◌∷◌, ◌++◌, sym, refl, ap, ◌∙◌, subst, ap₂, append-nil, inl, inr}
use lib.Bits.{or_zero_r}
use lib.Ieee.{Float}
use Rattle.std.proofs.lemmas.Bool.{cases_Bool, cond-true, cond-false, cond_both}
use Rattle.std.specs.List.{AllByRecursion}
use Rattle.interval.specs.Pairs.{Pair, pair, nothing}
use Rattle.interval.specs.Ordinary.{merged}
use Rattle.shapes.specs.declared.coord.Coord.{Coord}
use Rattle.shapes.specs.Hulls.{Four, none, with, with_all}
use Rattle.shapes.specs.Source.{Shape}
use Rattle.shapes.specs.Steps.{Fresh}
use Rattle.bounding.specs.Runs.{Run, Axis, joining, later, runs, runs_of, hull, gather, xs, ys, zs, ms}
use Rattle.bounding.specs.Record.{Kept, kept_of, record_of, merge, divide, place, codes_of, below, above, across, every}
use Rattle.bounding.specs.Walk.{settle, walk, mark, Adds, empty_record}
use Rattle.bounding.proofs.Merging.{Plain, merged-assoc, nothing-plain, nothing-merged, merged-nothing, merged-plain_left, merged-plain_right}
use Rattle.bounding.proofs.Gathers.{PlainKept, record-plain, hull-plain, gather-plain, merges}

-- ---- one bound
-- what becomes of a bound g when a hull passes the test or not
abbrev put : Bool → Pair → Pair → Pair
put b g e = cond b (merged g e) g

abbrev pick : Bool → Pair → Pair → Pair
pick b e g = cond b (merged e g) g

put-pick : (b : Bool) (g e x : Pair) → merged (put b g e) x ≡ merged g (pick b e x)
put-pick true g e x = merged-assoc g e x
put-pick false g e x = refl

put-end : (b : Bool) (g e : Pair) → Plain g → Plain e → put b g e ≡ merged g (pick b e nothing)
put-end true g e G E = ap (merged g) (sym (merged-nothing e E))
put-end false g e G E = sym (merged-nothing g G)

pick-nothing : (b : Bool) (x : Pair) → Plain x → pick b nothing x ≡ x
pick-nothing b x X = cond_both b _ _ (λ z. z ≡ x) (λ _. nothing-merged x X) (λ _. refl)

abbrev one : Axis → Coord → Pair
one f c = pair (f c) (f c)

-- ---- what is still to come, with e the hull so far of the run that is read
abbrev coming : Axis → (Pair → Bool) → Pair → List Coord → Pair
coming f p e cs = pick (p (merged e (hull f (joining cs)))) (merged e (hull f (joining cs))) (gather f p (later cs))

joining-yes : (c : Coord) (cs : List Coord) → c.joins ≡ true → joining (c ∷ cs) ≡ c ∷ joining cs
unfolding joining
joining-yes c cs e = cond-true c.joins (c ∷ joining cs) [] e

joining-no : (c : Coord) (cs : List Coord) → c.joins ≡ false → joining (c ∷ cs) ≡ []
unfolding joining
joining-no c cs e = cond-false c.joins (c ∷ joining cs) [] e

later-yes : (c : Coord) (cs : List Coord) → c.joins ≡ true → later (c ∷ cs) ≡ later cs
unfolding later
later-yes c cs e = cond-true c.joins (later cs) ((c ∷ joining cs) ∷ later cs) e

later-no : (c : Coord) (cs : List Coord) → c.joins ≡ false → later (c ∷ cs) ≡ (c ∷ joining cs) ∷ later cs
unfolding later
later-no c cs e = cond-false c.joins (later cs) ((c ∷ joining cs) ∷ later cs) e

module _ (f : Axis) (p : Pair → Bool) where
  -- the parts that a bound is made of
  shape : Pair → Pair → Pair
  shape z g = pick (p z) z g

  front : (e : Pair) (c : Coord) (r : Run) → merged e (hull f (c ∷ r)) ≡ merged (merged e (one f c)) (hull f r)
  unfolding hull
  front e c r = sym (merged-assoc e (one f c) (hull f r))

  back : (e : Pair) → Plain e → merged e (hull f []) ≡ e
  unfolding hull
  back e E = merged-nothing e E

  come_join : (e : Pair) (c : Coord) (cs : List Coord) → c.joins ≡ true → coming f p e (c ∷ cs) ≡ coming f p (merged e (one f c)) cs
  unfolding shape
  come_join e c cs j = ap₂ shape (ap (λ (r : Run). merged e (hull f r)) (joining-yes c cs j) ∙ front e c (joining cs)) (ap (gather f p) (later-yes c cs j))

  come_first : (c : Coord) (cs : List Coord) → coming f p (merged nothing (one f c)) cs ≡ gather f p ((c ∷ joining cs) ∷ later cs)
  unfolding gather hull
  come_first c cs = ap (λ (z : Pair). pick (p z) z (gather f p (later cs))) (merged-assoc nothing (one f c) (hull f (joining cs)) ∙ nothing-merged (merged (one f c) (hull f (joining cs))) (merged-plain_right (one f c) (hull f (joining cs)) (hull-plain f (joining cs))))

  come_next : (e : Pair) (c : Coord) (cs : List Coord) → Plain e → c.joins ≡ false → coming f p e (c ∷ cs) ≡ pick (p e) e (coming f p (merged nothing (one f c)) cs)
  unfolding shape
  come_next e c cs E j = ap₂ shape (ap (λ (r : Run). merged e (hull f r)) (joining-no c cs j) ∙ back e E) (ap (gather f p) (later-no c cs j) ∙ sym (come_first c cs))

  come_end : (e : Pair) → Plain e → coming f p e [] ≡ pick (p e) e nothing
  unfolding joining later hull gather
  come_end e E = ap (λ (z : Pair). pick (p z) z nothing) (merged-nothing e E)

  -- where no run is read, all is still to come
  come_all : (cs : List Coord) → coming f p nothing cs ≡ gather f p (runs cs)
  unfolding runs gather
  come_all [] = come_end nothing nothing-plain ∙ pick-nothing (p nothing) nothing nothing-plain
  come_all (c ∷ cs) =
      elim (cases_Bool c.joins) [
        | inl j ↦ come_join nothing c cs j ∙ come_first c cs
        | inr j ↦
            come_next nothing c cs nothing-plain j ∙ ap (pick (p nothing) nothing) (come_first c cs)
            ∙ pick-nothing (p nothing) (gather f p ((c ∷ joining cs) ∷ later cs)) (gather-plain f p ((c ∷ joining cs) ∷ later cs))
      ]

-- ---- all bounds
pub record PlainFour (h : Four) : Type 0 where
  pub x : Plain h.x
  pub y : Plain h.y
  pub z : Plain h.z
  pub m : Plain h.m

with-plain : (h : Four) (c : Coord) → PlainFour h → PlainFour (with h c)
with-plain h c p = record { x = merged-plain_left h.x (one xs c) p.x; y = merged-plain_left h.y (one ys c) p.y; z = merged-plain_left h.z (one zs c) p.z; m = merged-plain_left h.m (one ms c) p.m }

none-plain : PlainFour none
none-plain = record { x = nothing-plain; y = nothing-plain; z = nothing-plain; m = nothing-plain }

-- each bound g of a record and the hull e so far of the run that is read, by an axis f and a test p
abbrev By : Type 0
By = Axis → (Pair → Bool) → Pair → Pair → Pair

module _ (t : Float) where
  abbrev each : By → Kept → Four → Kept
  each b k h = record {
    left = b xs (below t) k.left h.x;
    mid = b xs (across t) k.mid h.x;
    right = b xs (above t) k.right h.x;
    y = b ys every k.y h.y;
    z = b zs every k.z h.z;
    m = b ms every k.m h.m;
    codes = k.codes;
  }

  each-same : (a b : By) (k : Kept) (h : Four) → ((f : Axis) (p : Pair → Bool) (g e : Pair) → Plain g → Plain e → a f p g e ≡ b f p g e) → PlainKept k → PlainFour h → each a k h ≡ each b k h
  each-same a b k h s K H = λ i. record {
    left = s xs (below t) k.left h.x K.left H.x i;
    mid = s xs (across t) k.mid h.x K.mid H.x i;
    right = s xs (above t) k.right h.x K.right H.x i;
    y = s ys every k.y h.y K.y H.y i;
    z = s zs every k.z h.z K.z H.z i;
    m = s ms every k.m h.m K.m H.m i;
    codes = k.codes;
  }

  each-plain : (b : By) (k : Kept) (h : Four) → ((f : Axis) (p : Pair → Bool) (g e : Pair) → Plain g → Plain (b f p g e)) → PlainKept k → PlainKept (each b k h)
  each-plain b k h s K = record {
    left = s xs (below t) k.left h.x K.left;
    mid = s xs (across t) k.mid h.x K.mid;
    right = s xs (above t) k.right h.x K.right;
    y = s ys every k.y h.y K.y;
    z = s zs every k.z h.z K.z;
    m = s ms every k.m h.m K.m;
  }

  -- what settles the run
  abbrev settled : By
  settled f p g e = put (p e) g e

  -- what is to come of the coordinates cs
  abbrev come : List Coord → By
  come cs f p g e = merged g (coming f p e cs)

  settle-plain : (k : Kept) (h : Four) → PlainKept k → PlainKept (settle t k h)
  settle-plain k h K = each-plain settled k h (λ f p g e G. cond_both (p e) _ _ Plain (λ _. merged-plain_left g e G) (λ _. G)) K

  end_is : (k : Kept) (h : Four) → PlainKept k → PlainFour h → settle t k h ≡ each (come []) k h
  end_is k h K H = each-same settled (come []) k h (λ f p g e G E. put-end (p e) g e G E ∙ ap (merged g) (sym (come_end f p e E))) K H

  join_is : (k : Kept) (h : Four) (c : Coord) (cs : List Coord) → PlainKept k → PlainFour h → c.joins ≡ true → each (come cs) k (with h c) ≡ each (come (c ∷ cs)) k h
  join_is k h c cs K H j = each-same (λ f p g e. come cs f p g (merged e (one f c))) (come (c ∷ cs)) k h (λ f p g e G E. ap (merged g) (sym (come_join f p e c cs j))) K H

  next-is : (k : Kept) (h : Four) (c : Coord) (cs : List Coord) → PlainKept k → PlainFour h → c.joins ≡ false → each (come cs) (settle t k h) (with none c) ≡ each (come (c ∷ cs)) k h
  next-is k h c cs K H j =
      each-same (λ f p g e. come cs f p (put (p e) g e) (merged nothing (one f c))) (come (c ∷ cs)) k h
      (λ f p g e G E. put-pick (p e) g e (coming f p (merged nothing (one f c)) cs) ∙ ap (merged g) (sym (come_next f p e c cs E j))) K H

  pub walk_is : (cs : List Coord) (k : Kept) (h : Four) → PlainKept k → PlainFour h → walk t k h cs ≡ each (come cs) k h
  unfolding walk
  walk_is [] k h K H = end_is k h K H
  walk_is (c ∷ cs) k h K H =
      let joined = walk_is cs k (with h c) K (with-plain h c H) in
      let begun = walk_is cs (settle t k h) (with none c) (settle-plain k h K) (with-plain none c none-plain) in
      cond_both c.joins _ _ (λ l. l ≡ each (come (c ∷ cs)) k h) (λ j. joined ∙ join_is k h c cs K H j) (λ j. begun ∙ next-is k h c cs K H j)

  -- a walk that begins with no run
  walk_whole : (cs : List Coord) (k : Kept) → PlainKept k → walk t k none cs ≡ each (λ f p g e. merged g (gather f p (runs cs))) k none
  walk_whole cs k K = walk_is cs k none K none-plain ∙ each-same (λ f p g e. come cs f p g nothing) (λ f p g e. merged g (gather f p (runs cs))) k none (λ f p g e G E. ap (merged g) (come_all f p cs)) K none-plain

-- one shape
single_runs : (s : Shape) → runs s.coords ≡ runs_of (s ∷ [])
unfolding runs_of
single_runs s = sym (append-nil (runs s.coords))

single_code : (s : Shape) → 2 ^ place s.code ≡ codes_of (s ∷ [])
unfolding codes_of
single_code s = sym (or_zero_r (2 ^ place s.code))

single : (h : Pair) (s : Shape) → kept_of (divide h) (runs s.coords) (2 ^ place s.code) ≡ record_of h (s ∷ [])
single h s = λ i. kept_of (divide h) (single_runs s i) (single_code s i)

pub walk-adds : (h : Pair) (k : Kept) (s : Shape) → Adds h k s (mark (walk (divide h) k none s.coords) (2 ^ place s.code))
walk-adds h k s ss e =
    ap (λ (l : Kept). mark l (2 ^ place s.code)) (walk_whole (divide h) s.coords k (subst PlainKept (sym e) (record-plain h ss)))
    ∙ ap₂ merge e (single h s) ∙ sym (merges h ss (s ∷ []))

-- ---- the steps of the walk
pub walk-join : (t : Float) (k : Kept) (h : Four) (c : Coord) (cs l : List Coord) → l ≡ c ∷ cs → c.joins ≡ true → walk t k (with h c) cs ≡ walk t k h l
unfolding walk
walk-join t k h c cs l e j = sym (ap (walk t k h) e ∙ cond-true c.joins (walk t k (with h c) cs) (walk t (settle t k h) (with none c) cs) j)

pub walk-next : (t : Float) (k : Kept) (h : Four) (c : Coord) (cs l : List Coord) → l ≡ c ∷ cs → c.joins ≡ false → walk t (settle t k h) (with none c) cs ≡ walk t k h l
unfolding walk
walk-next t k h c cs l e j = sym (ap (walk t k h) e ∙ cond-false c.joins (walk t k (with h c) cs) (walk t (settle t k h) (with none c) cs) j)

pub walk_end : (t : Float) (k : Kept) (h : Four) (l : List Coord) → l ≡ [] → settle t k h ≡ walk t k h l
unfolding walk
walk_end t k h l e = sym (ap (walk t k h) e)

-- ---- whole runs

-- to settle no run changes nothing
settle-none : (t : Float) (k : Kept) → PlainKept k → settle t k none ≡ k
settle-none t k K =
    each-same t (λ f p g e. put (p nothing) g nothing) (λ f p g e. g) k none
    (λ f p g e G E. cond_both (p nothing) _ _ (λ z. z ≡ g) (λ _. merged-nothing g G) (λ _. refl)) K none-plain

pub walk-settled : (t : Float) (k : Kept) (l : List Coord) → PlainKept k → l ≡ [] → k ≡ walk t k none l
walk-settled t k l p e = sym (settle-none t k p) ∙ walk_end t k none l e

walk-all : (t : Float) (k : Kept) (h : Four) (others rest : List Coord) → AllByRecursion (λ c. c.joins ≡ true) others → walk t k h (others ++ rest) ≡ walk t k (with_all h others) rest
unfolding with_all
walk-all t k h [] rest j = refl
walk-all t k h (c ∷ cs) rest j = sym (walk-join t k h c (cs ++ rest) (c ∷ (cs ++ rest)) refl j.0) ∙ walk-all t k (with h c) cs rest j.1

-- a run may be settled at its end or where the next one begins
walk-over : (t : Float) (k : Kept) (h : Four) (rest : List Coord) → PlainKept k → Fresh rest → walk t k h rest ≡ walk t (settle t k h) none rest
walk-over t k h [] p f = sym (walk_end t k h [] refl) ∙ walk-settled t (settle t k h) [] (settle-plain t k h p) refl
walk-over t k h (c ∷ cs) p f =
    sym (walk-next t k h c cs (c ∷ cs) refl f)
    ∙ ap (λ (q : Kept). walk t q (with none c) cs) (sym (settle-none t (settle t k h) (settle-plain t k h p)))
    ∙ walk-next t (settle t k h) none c cs (c ∷ cs) refl f

walk_first : (t : Float) (k : Kept) (c : Coord) (cs : List Coord) → PlainKept k → walk t k none (c ∷ cs) ≡ walk t k (with none c) cs
walk_first t k c cs p =
    elim (cases_Bool c.joins) [
      | inl j ↦ sym (walk-join t k none c cs (c ∷ cs) refl j)
      | inr j ↦ sym (walk-next t k none c cs (c ∷ cs) refl j) ∙ ap (λ (q : Kept). walk t q (with none c) cs) (settle-none t k p)
    ]

-- a walk takes a whole run at once, by its hulls
pub walk-run : (t : Float) (k : Kept) (h : Four) (first : Coord) (others rest l : List Coord) → PlainKept k → l ≡ first ∷ (others ++ rest) → AllByRecursion (λ c. c.joins ≡ true) others → Fresh rest → h ≡ with_all none (first ∷ others) →
    PlainKept (settle t k h) × (walk t (settle t k h) none rest ≡ walk t k none l)
unfolding with_all
walk-run t k h first others rest l p e j f eh = (
  settle-plain t k h p,
  sym (ap (walk t k none) e ∙ walk_first t k first (others ++ rest) p ∙ walk-all t k (with none first) others rest j ∙ ap (λ (q : Four). walk t k q rest) (sym eh) ∙ walk-over t k h rest p f),
)

-- what a walk by whole runs comes to: p is left of k once no coordinate is to come
pub runs-add : (h : Pair) (k p : Kept) (s : Shape) (t : Float) (rest : List Coord) → (PlainKept k → PlainKept p × (walk t p none rest ≡ walk t k none s.coords)) → rest ≡ [] → t ≡ divide h → Adds h k s (mark p (2 ^ place s.code))
runs-add h k p s t rest f e d ss er =
    let q = f (subst PlainKept (sym er) (record-plain h ss)) in
    ap (λ (l : Kept). mark l (2 ^ place s.code)) (walk-settled t p rest q.0 e ∙ q.1 ∙ ap (λ (z : Float). walk z k none s.coords) d) ∙ walk-adds h k s ss er

-- ---- the record of no shapes
pub no_shapes : (h : Pair) → empty_record ≡ record_of h []
unfolding runs_of gather codes_of
no_shapes h = refl
