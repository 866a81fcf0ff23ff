-- What is told covers the runs.
use Rattle.std.proofs.Common.{◌≡◌, ℕ, Bool, true, false, T, ◌⊎◌, List, [], ◌∷◌, Some, None, sym, refl, ap, ◌∙◌, subst, ap₂, inl, inr, true≢false, arith}
use mathlib.Core.List.Memᴰ
use mathlib.Core.List.{Memᴰ}
use lib.Ieee.{Float, sub, eq, le, lt, is_nan}
use lib.Ieee.Fits.{and_i, and_l, and_r}
use lib.Ieee.Bits.{is_true}
use Rattle.std.specs.Float.{NotNan}
use Rattle.std.proofs.lemmas.Bool.{cases_Bool, cond_both}
use Rattle.std.proofs.lemmas.Float.{le_trans, lt_trans, T_from_true, T_from_false}
use Rattle.number.proofs.Plain.{not_le_of_lt}
use Rattle.interval.specs.Pairs.{Pair, pair, between, sides, stored, empty, width, nothing}
use Rattle.interval.specs.Ordinary.{merged, contains}
use Rattle.interval.proofs.Between.{merged-ends}
use Rattle.interval.proofs.Wraps.{empty-is_down}
use Rattle.shapes.specs.declared.coord.Coord.{Coord}
use Rattle.shapes.specs.Source.{Shape}
use Rattle.bounding.specs.Runs.{Run, Axis, runs_of, hull, gather, xs, ys, zs, ms}
use Rattle.bounding.specs.Record.{Kept, kept_of, record_of, divide, codes_of, below, above, across, every}
use Rattle.bounding.specs.Told.{all, ordinary, told_x, shown, told}
use Rattle.bounding.specs.Laws.{HeldEnds, HeldKept, HasValue, Covers, CoversAll}
use Rattle.bounding.proofs.Merging.{Plain, Into, nothing-plain, nothing-merged, merged-nothing, nan-merged, merged-plain_right, into_left, into_right, into_trans}
use Rattle.bounding.proofs.Gathers.{hull-plain, gather-plain, hull-into}

-- ---- emptiness
pub empty-nothing : empty nothing ≡ true
unfolding empty width sub eq
empty-nothing = refl

pub upright : (e : Pair) → HeldEnds e → T (le e.lo e.hi) → empty e ≡ false
upright e h u = let d = empty-is_down e h in let n = not_le_of_lt e.hi e.lo in grind arith

-- ---- values
pub hull-value : (f : Axis) (r : Run) → (c : Coord) → Memᴰ c r → NotNan (f c) → Into (pair (f c) (f c)) (hull f r)
unfolding hull
hull-value f [] c m n = elim m [ ]
hull-value f (d ∷ r) c (Memᴰ.head e) n = rw (← e) (into_left (pair (f c) (f c)) (hull f r) (record { low = n; high = n }))
hull-value f (d ∷ r) c (Memᴰ.tail m) n = into_trans (pair (f c) (f c)) (hull f r) (merged (pair (f d) (f d)) (hull f r)) (hull-value f r c m n) (into_right (pair (f d) (f d)) (hull f r) (hull-plain f r))

pub hull-upright : (f : Axis) (r : Run) → HasValue f r → T (le (hull f r).lo (hull f r).hi)
hull-upright f r v = let k = hull-value f r v.0 v.1 v.2 in le_trans (hull f r).lo (f v.0) (hull f r).hi k.low k.high

pub hull-none : (f : Axis) (r : Run) → (HasValue f r → ⊥) → hull f r ≡ nothing
unfolding hull
hull-none f [] h = refl
hull-none f (c ∷ r) h =
    let rest = hull-none f r (λ v. h (v.0, Memᴰ.tail v.1, v.2)) in
    elim (cases_Bool (is_nan (f c))) [
      | inl e ↦ nan-merged (f c) (hull f r) (T_from_true _ e) (hull-plain f r) ∙ rest
      | inr e ↦ absurd (h (c, Memᴰ.head refl, T_from_false _ e))
    ]

pub gather_none : (f : Axis) (p : Pair → Bool) (rs : List Run) → ((r : Run) → Memᴰ r rs → HasValue f r → ⊥) → gather f p rs ≡ nothing
unfolding gather
gather_none f p [] h = refl
gather_none f p (r ∷ rs) h =
    let rest = gather_none f p rs (λ q m. h q (Memᴰ.tail m)) in
    cond_both (p (hull f r)) _ _ (λ z. z ≡ nothing) (λ _. ap₂ merged (hull-none f r (h r (Memᴰ.head refl))) rest ∙ nothing-merged nothing nothing-plain) (λ _. rest)

-- a value of a run that begins with none comes after
pub value-later : (f : Axis) (c : Coord) (r : Run) → is_nan (f c) ≡ true → HasValue f (c ∷ r) → HasValue f r
value-later f c r e (d, m, n) = elim (Memᴰ.cases_cons m) [ inl q ↦ absurd (rw (q, e) at n) | inr i ↦ (d, i, n) ]

pub run-find : (f : Axis) (r : Run) → (HasValue f r → ⊥) ⊎ HasValue f r
run-find f [] = inl (λ v. elim v.1 [ ])
run-find f (c ∷ r) =
    let rest = run-find f r in
    elim (cases_Bool (is_nan (f c))) [
      | inl e ↦ elim rest [ inl k ↦ inl (λ v. k (value-later f c r e v)) | inr v ↦ inr (v.0, Memᴰ.tail v.1, v.2) ]
      | inr e ↦ inr (c, Memᴰ.head refl, T_from_false _ e)
    ]

abbrev pub Has : Axis → List Run → Type 0
Has f rs = (r : Run) × Memᴰ r rs × HasValue f r

pub find : (f : Axis) (rs : List Run) → ((r : Run) → Memᴰ r rs → HasValue f r → ⊥) ⊎ Has f rs
find f [] = inl (λ r m v. elim m [ ])
find f (r ∷ rs) =
    let rest = find f rs in
    elim (run-find f r) [
      | inl h ↦
          elim rest [
            | inl k ↦ inl (λ q m v. elim (Memᴰ.cases_cons m) [ inl e ↦ h (subst (HasValue f) e v) | inr i ↦ k q i v ])
            | inr k ↦ inr (k.0, Memᴰ.tail k.1, k.2)
          ]
      | inr v ↦ inr (r, Memᴰ.head refl, v)
    ]

-- ---- one axis
covers-shown : (f : Axis) (rs : List Run) (g e : Pair)
    → (((r : Run) → Memᴰ r rs → HasValue f r → ⊥) → empty g ≡ true)
    → ((r : Run) → Memᴰ r rs → HasValue f r → empty g ≡ false)
    → ((r : Run) → Memᴰ r rs → (v : Float) → T (between (hull f r) v) → T (stored e v))
    → Covers f rs (shown g e)
covers-shown f rs g e h k c =
    cond_both (empty g) None (Some e) (Covers f rs) (λ p r m v. true≢false (sym p ∙ k r m v))
    (λ p. (elim (find f rs) [ inl z ↦ absurd (true≢false (sym (h z) ∙ p)) | inr w ↦ w ], c))

-- a pair that holds the hulls of the runs covers their values
upward : (f : Axis) (r : Run) (e : Pair) → Into (hull f r) e → (v : Float) → T (between (hull f r) v) → T (le e.lo v) × T (le v e.hi)
upward f r e i v b =
    (le_trans e.lo (hull f r).lo v i.low (and_l (le (hull f r).lo v) (le v (hull f r).hi) b), le_trans v (hull f r).hi e.hi (and_r (le (hull f r).lo v) (le v (hull f r).hi) b) i.high)

stored-up : (lo hi v : Float) → T (le lo v) → T (le v hi) → T (stored (pair lo hi) v)
stored-up lo hi v h k = rw (is_true _ (le_trans lo v hi h k)) (and_i (le lo v) (le v hi) h k)

pub raised : (f : Axis) (r : Run) (e : Pair) → Into (hull f r) e → HasValue f r → T (le e.lo e.hi)
raised f r e i v = le_trans e.lo (hull f r).lo e.hi i.low (le_trans (hull f r).lo (hull f r).hi e.hi (hull-upright f r v) i.high)

pub covers-plain : (f : Axis) (rs : List Run) → HeldEnds (gather f every rs) → Covers f rs (shown (gather f every rs) (gather f every rs))
covers-plain f rs h =
    let g = gather f every rs in
    covers-shown f rs g g (λ z. ap empty (gather_none f every rs z) ∙ empty-nothing) (λ r m v. upright g h (raised f r g (hull-into f every m tt) v))
    (λ r m v b. let u = upward f r g (hull-into f every m tt) v b in stored-up g.lo g.hi v u.0 u.1)

-- ---- x
-- what holds of the hulls that pass, and of two merged if of both, holds of what is gathered unless that is empty
module _ (f : Axis) (p : Pair → Bool) (P : Pair → Type 0) (each : (r : Run) → T (p (hull f r)) → (hull f r ≡ nothing) ⊎ P (hull f r)) (both : (a b : Pair) → P a → P b → P (merged a b)) where
  two : (a b : Pair) → Plain a → Plain b → (a ≡ nothing) ⊎ P a → (b ≡ nothing) ⊎ P b → (merged a b ≡ nothing) ⊎ P (merged a b)
  two a b A B (inl n) k = subst (λ z. (z ≡ nothing) ⊎ P z) (sym (ap (λ z. merged z b) n ∙ nothing-merged b B)) k
  two a b A B (inr h) (inl n) = inr (subst P (sym (ap (merged a) n ∙ merged-nothing a A)) h)
  two a b A B (inr h) (inr k) = inr (both a b h k)

  nothing-or : (rs : List Run) → (gather f p rs ≡ nothing) ⊎ P (gather f p rs)
  unfolding gather
  nothing-or [] = inl refl
  nothing-or (r ∷ rs) =
      let rest = nothing-or rs in
      cond_both (p (hull f r)) _ _ (λ z. (z ≡ nothing) ⊎ P z) (λ e. two (hull f r) (gather f p rs) (hull-plain f r) (gather-plain f p rs) (each r (T_from_true _ e)) rest) (λ _. rest)

  pub gathered : (rs : List Run) → empty (gather f p rs) ≡ false → P (gather f p rs)
  gathered rs e = elim (nothing-or rs) [ inl n ↦ absurd (true≢false (sym (ap empty n ∙ empty-nothing) ∙ e)) | inr h ↦ h ]

-- every hull on the left pair below t, on the right begins above it
pub left_below : (f : Axis) (t : Float) (rs : List Run) → (gather f (below t) rs ≡ nothing) ⊎ T (lt (gather f (below t) rs).hi t)
left_below f t rs = nothing-or f (below t) (λ z. T (lt z.hi t)) (λ r h. inr h) (λ a b h k. cond_both _ _ _ (λ v. T (lt v t)) (λ _. h) (λ _. k)) rs

pub right-above : (f : Axis) (t : Float) (rs : List Run) → (gather f (above t) rs ≡ nothing) ⊎ T (lt t (gather f (above t) rs).lo)
right-above f t rs = nothing-or f (above t) (λ z. T (lt t z.lo)) (λ r h. inr (and_r _ _ h)) (λ a b h k. cond_both _ _ _ (λ v. T (lt t v)) (λ _. h) (λ _. k)) rs

-- a hull is on one of three sides
pub data Sided (t : Float) (e : Pair) : Type 0 where
  on_left : T (below t e) → Sided t e
  on_right : T (above t e) → Sided t e
  amid : T (across t e) → Sided t e

pub sided : (t : Float) (e : Pair) → Sided t e
sided t e =
    elim (cases_Bool (lt e.hi t)) [
      | inl p ↦ on_left (T_from_true _ p)
      | inr p ↦ elim (cases_Bool (lt t e.lo)) [ inl q ↦ on_right (grind arith) | inr q ↦ amid (grind arith) ]
    ]

module _ (t : Float) (rs : List Run) where
  abbrev pub lefts : Pair
  lefts = gather xs (below t) rs

  abbrev pub mids : Pair
  mids = gather xs (across t) rs

  abbrev pub rights : Pair
  rights = gather xs (above t) rs

  abbrev pub whole : Pair
  whole = merged (merged lefts mids) rights

  pub left-whole : Into lefts whole
  left-whole = into_trans lefts (merged lefts mids) whole (into_left lefts mids (gather-plain xs (below t) rs)) (into_left (merged lefts mids) rights (merged-plain_right lefts mids (gather-plain xs (across t) rs)))

  pub mid-whole : Into mids whole
  mid-whole = into_trans mids (merged lefts mids) whole (into_right lefts mids (gather-plain xs (across t) rs)) (into_left (merged lefts mids) rights (merged-plain_right lefts mids (gather-plain xs (across t) rs)))

  pub right-whole : Into rights whole
  right-whole = into_right (merged lefts mids) rights (gather-plain xs (above t) rs)

  pub hull-whole : (r : Run) → Memᴰ r rs → Into (hull xs r) whole
  hull-whole r m = elim (sided t (hull xs r)) [
    | on_left h ↦ into_trans (hull xs r) lefts whole (hull-into xs (below t) m h) left-whole
    | on_right h ↦ into_trans (hull xs r) rights whole (hull-into xs (above t) m h) right-whole
    | amid h ↦ into_trans (hull xs r) mids whole (hull-into xs (across t) m h) mid-whole
  ]

  -- the three x bounds are of binary64
  pub record HeldThree : Type 0 where
    pub left : HeldEnds lefts
    pub mid : HeldEnds mids
    pub right : HeldEnds rights

  pub whole-held : HeldThree → HeldEnds whole
  whole-held h = merged-ends (merged lefts mids) rights (merged-ends lefts mids h.left h.mid) h.right

  pub whole-none : ((r : Run) → Memᴰ r rs → HasValue xs r → ⊥) → empty whole ≡ true
  whole-none z =
      ap empty (ap₂ merged (ap₂ merged (gather_none xs (below t) rs z) (gather_none xs (across t) rs z) ∙ nothing-merged nothing nothing-plain) (gather_none xs (above t) rs z) ∙ nothing-merged nothing nothing-plain) ∙ empty-nothing

-- what is known where x is told as two sides
pub record Halved (h : Pair) (k : Kept) : Type 0 where
  pub clear : empty k.mid ≡ true
  pub inside : T (contains h (all k))
  pub paired : empty k.left ≡ empty k.right

pub halved : (h : Pair) (k : Kept) → ordinary h k ≡ false → Halved h k
unfolding ordinary
halved h k e = record { clear = grind arith; inside = grind arith; paired = grind arith }

-- every hull on the left lies below t, on the right above it
pub lefts-below : (t : Float) (rs : List Run) → empty (lefts t rs) ≡ false → T (lt (lefts t rs).hi t)
lefts-below t rs e = gathered xs (below t) (λ z. T (lt z.hi t)) (λ r h. inr h) (λ a b h k. cond_both _ _ _ (λ v. T (lt v t)) (λ _. h) (λ _. k)) rs e

pub rights-above : (t : Float) (rs : List Run) → empty (rights t rs) ≡ false → T (lt t (rights t rs).lo)
rights-above t rs e = gathered xs (above t) (λ z. T (lt t z.lo)) (λ r h. inr (and_r _ _ h)) (λ a b h k. cond_both _ _ _ (λ v. T (lt t v)) (λ _. h) (λ _. k)) rs e

stored-down : (lo hi t v : Float) → T (lt hi t) → T (lt t lo) → T (sides (pair lo hi) v) → T (stored (pair lo hi) v)
stored-down lo hi t v h k z = rw (not_le_of_lt hi lo (lt_trans hi t lo h k)) z

module _ (h : Pair) (t : Float) (rs : List Run) (n : ℕ) (held : HeldThree t rs) where
  x-covers : (r : Run) → Memᴰ r rs → (v : Float) → T (between (hull xs r) v) → T (stored (told_x h (kept_of t rs n)) v)
  x-covers r m v b =
      let k = kept_of t rs n in
      cond_both (ordinary h k) _ _ (λ e. T (stored e v)) (λ _. let u = upward xs r (whole t rs) (hull-whole t rs r m) v b in stored-up (whole t rs).lo (whole t rs).hi v u.0 u.1)
      (λ o.
      let s = halved h k o in
      elim (sided t (hull xs r)) [
        | on_left z ↦
            let i = hull-into xs (below t) m z in
            let p = standing (lefts t rs) held.left i in
            let u = (upward xs r (lefts t rs) i v b).1 in
            stored-down (rights t rs).lo (lefts t rs).hi t v (lefts-below t rs p) (rights-above t rs (sym s.paired ∙ p)) (grind arith)
        | on_right z ↦
            let i = hull-into xs (above t) m z in
            let p = standing (rights t rs) held.right i in
            let u = (upward xs r (rights t rs) i v b).0 in
            stored-down (rights t rs).lo (lefts t rs).hi t v (lefts-below t rs (s.paired ∙ p)) (rights-above t rs p) (grind arith)
        | amid z ↦ absurd (true≢false (sym s.clear ∙ standing (mids t rs) held.mid (hull-into xs (across t) m z)))
      ])
    where
      standing : (e : Pair) → HeldEnds e → Into (hull xs r) e → empty e ≡ false
      standing e k i = let u = upward xs r e i v b in upright e k (le_trans e.lo v e.hi u.0 u.1)

  pub covers-x : Covers xs rs (shown (whole t rs) (told_x h (kept_of t rs n)))
  covers-x = covers-shown xs rs (whole t rs) (told_x h (kept_of t rs n)) (whole-none t rs) (λ r m v. upright (whole t rs) (whole-held t rs held) (raised xs r (whole t rs) (hull-whole t rs r m) v)) x-covers

pub tells-covering : (h : Pair) (ss : List Shape) → HeldKept (record_of h ss) → CoversAll (runs_of ss) (told h (record_of h ss))
tells-covering h ss k = record {
  x = covers-x h (divide h) (runs_of ss) (codes_of ss) (record { left = k.left; mid = k.mid; right = k.right });
  y = covers-plain ys (runs_of ss) k.y;
  z = covers-plain zs (runs_of ss) k.z;
  m = covers-plain ms (runs_of ss) k.m;
}
