-- What is gathered of a list of runs.
use Rattle.std.proofs.Common.{◌≡◌, Bool, T, List, [], ◌∷◌, ◌++◌, map, sym, refl, ap, ◌∙◌, subst, inl, inr, append_assoc, append-nil}
use mathlib.Core.List.Memᴰ
use mathlib.Core.List.{Memᴰ}
use lib.Ieee.Bits.{is_true}
use Rattle.std.proofs.lemmas.Bool.{cases_Bool, cond_both}
use Rattle.std.proofs.lemmas.Float.{T_from_true}
use Rattle.interval.specs.Pairs.{Pair, pair}
use Rattle.interval.specs.Ordinary.{merged}
use Rattle.shapes.specs.Source.{Shape}
use Rattle.bounding.specs.Runs.{Run, Axis, runs, runs_of, hull, gather, xs, ys, zs, ms}
use Rattle.bounding.specs.Record.{Kept, record_of, divide, below, above, across, every}
use Rattle.bounding.specs.Laws.{MergesLists, MergesPages, merged_from, together, Alike, KeepsMembers}
use Rattle.bounding.proofs.BitSets.{codes-append, codes_same}
use Rattle.bounding.proofs.Merging.{Plain, Into, merged-assoc, nothing-plain, nothing-merged, merged-plain_right, into_left, into_right, into_merged, into_trans, nothing-into, alike_of}

pub hull-plain : (f : Axis) (r : Run) → Plain (hull f r)
unfolding hull
hull-plain f [] = nothing-plain
hull-plain f (c ∷ cs) = merged-plain_right (pair (f c) (f c)) (hull f cs) (hull-plain f cs)

module _ (f : Axis) (p : Pair → Bool) where
  pub gather-plain : (rs : List Run) → Plain (gather f p rs)
  unfolding gather
  gather-plain [] = nothing-plain
  gather-plain (r ∷ rs) = let rest = gather-plain rs in cond_both (p (hull f r)) _ _ Plain (λ _. merged-plain_right (hull f r) (gather f p rs) rest) (λ _. rest)

  pub gather_append : (a b : List Run) → gather f p (a ++ b) ≡ merged (gather f p a) (gather f p b)
  unfolding gather
  gather_append [] b = sym (nothing-merged (gather f p b) (gather-plain b))
  gather_append (r ∷ a) b =
      let rest = gather_append a b in
      elim (cases_Bool (p (hull f r))) [
        | inl e ↦ rw e (ap (merged (hull f r)) rest ∙ sym (merged-assoc (hull f r) (gather f p a) (gather f p b)))
        | inr e ↦ rw e rest
      ]

  -- each hull that passes is within
  pub hull-into : {r : Run} {rs : List Run} → Memᴰ r rs → T (p (hull f r)) → Into (hull f r) (gather f p rs)
  unfolding gather
  hull-into {r} (Memᴰ.head {x = q} {xs = rs} e) h = rw (← e, is_true (p (hull f r)) h) (into_left (hull f r) (gather f p rs) (hull-plain f r))
  hull-into {r} (Memᴰ.tail {x = q} {xs = rs} m) h =
      let rest = hull-into m h in
      cond_both (p (hull f q)) _ _ (Into (hull f r)) (λ _. into_trans (hull f r) (gather f p rs) (merged (hull f q) (gather f p rs)) rest (into_right (hull f q) (gather f p rs) (gather-plain rs))) (λ _. rest)

  -- it is the least that holds them
  pub gather-into : (rs : List Run) (e : Pair) → Plain e → ((r : Run) → Memᴰ r rs → T (p (hull f r)) → Into (hull f r) e) → Into (gather f p rs) e
  unfolding gather
  gather-into [] e k g = nothing-into e k
  gather-into (r ∷ rs) e k g =
      let rest = gather-into rs e k (λ q m. g q (Memᴰ.tail m)) in
      cond_both (p (hull f r)) _ _ (λ z. Into z e) (λ h. into_merged (hull f r) (gather f p rs) e (g r (Memᴰ.head refl) (T_from_true _ h)) rest) (λ _. rest)

  pub gather-same : (a b : List Run) → ((r : Run) → Memᴰ r a → Memᴰ r b) → ((r : Run) → Memᴰ r b → Memᴰ r a) → Alike (gather f p a) (gather f p b)
  gather-same a b i j =
      alike_of (gather f p a) (gather f p b)
      (gather-into a (gather f p b) (gather-plain b) (λ r m h. hull-into (i r m) h))
      (gather-into b (gather f p a) (gather-plain a) (λ r m h. hull-into (j r m) h))

-- every bound of a record is of numbers
pub record PlainKept (k : Kept) : Type 0 where
  pub left : Plain k.left
  pub mid : Plain k.mid
  pub right : Plain k.right
  pub y : Plain k.y
  pub z : Plain k.z
  pub m : Plain k.m

pub record-plain : (h : Pair) (ss : List Shape) → PlainKept (record_of h ss)
record-plain h ss = record {
  left = gather-plain xs (below (divide h)) (runs_of ss);
  mid = gather-plain xs (across (divide h)) (runs_of ss);
  right = gather-plain xs (above (divide h)) (runs_of ss);
  y = gather-plain ys every (runs_of ss);
  z = gather-plain zs every (runs_of ss);
  m = gather-plain ms every (runs_of ss);
}

-- ---- the runs of shapes
pub runs_append : (a b : List Shape) → runs_of (a ++ b) ≡ runs_of a ++ runs_of b
unfolding runs_of
runs_append [] b = refl
runs_append (s ∷ a) b = ap (λ (rs : List Run). runs s.coords ++ rs) (runs_append a b) ∙ sym (append_assoc (runs s.coords) (runs_of a) (runs_of b))

pub run_in : {s : Shape} {a : List Shape} (r : Run) → Memᴰ s a → Memᴰ r (runs s.coords) → Memᴰ r (runs_of a)
unfolding runs_of
run_in {s} r (Memᴰ.head {x = t} {xs = ts} e) m = Memᴰ.append_left (runs_of ts) (subst (λ (z : Shape). Memᴰ r (runs z.coords)) e m)
run_in {s} r (Memᴰ.tail {x = t} {xs = ts} n) m = Memᴰ.append_right (runs t.coords) (run_in r n m)

pub run-from : (r : Run) (a : List Shape) → Memᴰ r (runs_of a) → (s : Shape) × Memᴰ s a × Memᴰ r (runs s.coords)
unfolding runs_of
run-from r [] m = elim m [ ]
run-from r (s ∷ a) m = elim (Memᴰ.append_cases (runs s.coords) m) [ inl h ↦ (s, Memᴰ.head refl, h) | inr h ↦ let k = run-from r a h in (k.0, Memᴰ.tail k.1, k.2) ]

runs-into : (a b : List Shape) → ((s : Shape) → Memᴰ s a → Memᴰ s b) → (r : Run) → Memᴰ r (runs_of a) → Memᴰ r (runs_of b)
runs-into a b f r m = let k = run-from r a m in run_in r (f k.0 k.1) k.2

-- ---- merging
pub merges : MergesLists
merges h a b = λ i. record {
  left = l (below (divide h)) xs i;
  mid = l (across (divide h)) xs i;
  right = l (above (divide h)) xs i;
  y = l every ys i;
  z = l every zs i;
  m = l every ms i;
  codes = codes-append a b i;
}
  where
    l : (p : Pair → Bool) (f : Axis) → gather f p (runs_of (a ++ b)) ≡ merged (gather f p (runs_of a)) (gather f p (runs_of b))
    l p f = ap (gather f p) (runs_append a b) ∙ gather_append f p (runs_of a) (runs_of b)

-- ---- order and copies
pub keeps-members : KeepsMembers
keeps-members h a b s =
    record {
      left = go xs (below (divide h));
      mid = go xs (across (divide h));
      right = go xs (above (divide h));
      y = go ys every;
      z = go zs every;
      m = go ms every;
      codes = codes_same a b s.0 s.1;
    }
  where
    go : (f : Axis) (p : Pair → Bool) → Alike (gather f p (runs_of a)) (gather f p (runs_of b))
    go f p = gather-same f p (runs_of a) (runs_of b) (runs-into a b s.0) (runs-into b a s.1)

-- ---- pages
pages-from : (h : Pair) (a : List Shape) (ps : List (List Shape)) → merged_from (record_of h a) (map (record_of h) ps) ≡ record_of h (a ++ together ps)
unfolding merged_from together
pages-from h a [] = ap (record_of h) (sym (append-nil a))
pages-from h a (p ∷ ps) = ap (λ (k : Kept). merged_from k (map (record_of h) ps)) (sym (merges h a p)) ∙ pages-from h (a ++ p) ps ∙ ap (record_of h) (append_assoc a p (together ps))

pub merges_pages : MergesPages
merges_pages h ps = pages-from h [] ps
