-- What is told of x can be taken by a kind that wraps.
use Rattle.std.proofs.Common.{◌≡◌, ℕ, Bool, true, false, ◌&&◌, T, List, Some, None, sym, refl, ◌∙◌, inl, inr, true≢false, arith}
use lib.Ieee.{Float, nan, inf, fin, binary64, add, sub, div, eq, le, lt}
use lib.Ieee.Fits.{and_l, and_r}
use Rattle.std.proofs.lemmas.Bool.{cases_Bool, cond_both}
use Rattle.std.specs.Float.{float_is_finite}
use Rattle.number.specs.Values.{Held}
use Rattle.number.proofs.Arith.{sub-lowest, sub-highest}
use Rattle.std.proofs.lemmas.Float.{le_left, le_right, le_trans, le_of_lt, lt_of_lt_of_le, lt_of_le_of_lt}
use Rattle.interval.specs.Pairs.{Pair, pair, empty, width, wraps}
use Rattle.interval.specs.Ordinary.{merged, middle, half, too_wide}
use Rattle.interval.specs.Laws.{refusal}
use Rattle.interval.proofs.Wraps.{wraps-is, narrower}
use Rattle.shapes.specs.Source.{Shape}
use Rattle.bounding.specs.Runs.{Run, Axis, runs_of, hull, gather, xs}
use Rattle.bounding.specs.Record.{kept_of, record_of, divide, codes_of, below, above, across}
use Rattle.bounding.specs.Told.{ordinary, told_x, shown, told}
use Rattle.bounding.specs.Laws.{HeldEnds, HeldKept, Takable}
use Rattle.bounding.proofs.Merging.{Plain, merged-plain_right, into_left}
use Rattle.bounding.proofs.Gathers.{gather-plain, hull-into}
use Rattle.bounding.proofs.Covers.{HeldThree, upright, hull-upright, raised, hull-none, run-find, Has, find, gathered, on_left, on_right, amid, sided, lefts, mids, rights, whole, left-whole, right-whole, whole-none, Halved, halved, lefts-below, rights-above}

-- ---- the hint
no_above : (b : Float) → T (lt (inf false) b) → ⊥
unfolding lt
no_above nan h = h
no_above (inf s) h = h
no_above (fin s m e) h = h

no_below : (a : Float) → T (lt a (inf true)) → ⊥
unfolding lt
no_below nan h = h
no_below (inf true) h = h
no_below (inf false) h = h
no_below (fin s m e) h = h

-- a middle with a value on either side comes of a finite width
mid-finite : (l w a b : Float) → T (lt a (add binary64 l (half w))) → T (lt (add binary64 l (half w)) b) → T (float_is_finite w)
unfolding lt add div float_is_finite
mid-finite nan w a b h k = absurd k
mid-finite (inf s) nan a b h k = absurd k
mid-finite (fin s m e) nan a b h k = absurd k
mid-finite (inf true) (inf true) a b h k = absurd (no_below a h)
mid-finite (inf false) (inf true) a b h k = absurd k
mid-finite (fin s m e) (inf true) a b h k = absurd (no_below a h)
mid-finite (inf true) (inf false) a b h k = absurd k
mid-finite (inf false) (inf false) a b h k = absurd (no_above b k)
mid-finite (fin s m e) (inf false) a b h k = absurd (no_above b k)
mid-finite (inf t) (fin s m e) a b h k = tt
mid-finite (fin t n d) (fin s m e) a b h k = tt

divide-finite : (h : Pair) (a b : Float) → T (lt a (divide h)) → T (lt (divide h) b) → T (float_is_finite (width h))
unfolding divide middle
divide-finite h a b p q =
    elim (cases_Bool (too_wide h)) [
      | inl e ↦ absurd (no_above b (rw e at q))
      | inr e ↦ mid-finite h.lo (width h) a b (rw e at p) (rw e at q)
    ]

-- a finite width is not infinite turned round
finite_is_not_highest : (x : Float) → T (float_is_finite x) → eq x (inf false) ≡ false
unfolding float_is_finite eq
finite_is_not_highest nan h = absurd h
finite_is_not_highest (inf s) h = absurd h
finite_is_not_highest (fin s m e) h = refl

turned_wraps : (h : Pair) → HeldEnds h → T (lt h.lo h.hi) → T (float_is_finite (width h)) → wraps (pair h.hi h.lo) ≡ true
unfolding empty width
turned_wraps h (A, B) l f =
    let x = finite_is_not_highest (sub binary64 h.hi h.lo) f in
    let y = sub-highest h.lo h.hi A B in
    let z = sub-lowest h.lo h.hi A B in
    let w = wraps-is (pair h.hi h.lo) (B, A) in
    grind arith

-- two values of the hint on either side of its middle, the higher one first, wrap
divide-wraps : (h : Pair) (a b : Float) → HeldEnds h → Held a → Held b → T (lt a (divide h)) → T (lt (divide h) b) → T (le h.lo a) → T (le b h.hi) → wraps (pair b a) ≡ true
divide-wraps h a b (H, I) A B p q u v =
    let d = lt_of_lt_of_le a (divide h) b p (le_of_lt (divide h) b q) in
    let e = lt_of_le_of_lt h.lo a h.hi u (lt_of_lt_of_le a b h.hi d v) in
    narrower (pair h.hi h.lo) (pair b a) (I, H) (B, A) (turned_wraps h (H, I) e (divide-finite h a b p q)) v u d

-- ---- what is gathered is empty, or goes up
pub gather-upright : (f : Axis) (p : Pair → Bool) (rs : List Run) → empty (gather f p rs) ≡ false → T (le (gather f p rs).lo (gather f p rs).hi)
gather-upright f p rs e =
    gathered f p (λ z. T (le z.lo z.hi)) (λ r _. elim (run-find f r) [ inl n ↦ inl (hull-none f r n) | inr v ↦ inr (hull-upright f r v) ])
    (λ a b h k.
    let i = into_left a b (record { low = le_left a.lo a.hi h; high = le_right a.lo a.hi h }) in
    le_trans (merged a b).lo a.lo (merged a b).hi i.low (le_trans a.lo a.hi (merged a b).hi h i.high)) rs e

takes : (e : Pair) → Plain e → (lt e.hi e.lo && empty e) ≡ false → refusal true e ≡ None
takes e p d = let l = p.low in let h = p.high in grind arith

module _ (h : Pair) (rs : List Run) (n : ℕ) (H : HeldEnds h) (held : HeldThree (divide h) rs) where
  abbrev t : Float
  t = divide h

  -- a run with a value, where not all is empty
  some-run : empty (whole t rs) ≡ false → Has xs rs
  some-run w = elim (find xs rs) [ inl z ↦ absurd (true≢false (sym (whole-none t rs z) ∙ w)) | inr v ↦ v ]

  -- both halves have values where x is told as two sides
  sides-stand : Halved h (kept_of t rs n) → empty (whole t rs) ≡ false → empty (lefts t rs) ≡ false
  sides-stand k w =
      let (r, m, v) = some-run w in
      elim (sided t (hull xs r)) [
        | on_left z ↦ upright (lefts t rs) held.left (raised xs r (lefts t rs) (hull-into xs (below t) m z) v)
        | on_right z ↦ k.paired ∙ upright (rights t rs) held.right (raised xs r (rights t rs) (hull-into xs (above t) m z) v)
        | amid z ↦ absurd (true≢false (sym k.clear ∙ upright (mids t rs) held.mid (raised xs r (mids t rs) (hull-into xs (across t) m z) v)))
      ]

  split_wraps : Halved h (kept_of t rs n) → empty (whole t rs) ≡ false → wraps (pair (rights t rs).lo (lefts t rs).hi) ≡ true
  split_wraps k w =
      let l = sides-stand k w in
      let r = sym k.paired ∙ l in
      divide-wraps h (lefts t rs).hi (rights t rs).lo H held.left.1 held.right.0 (lefts-below t rs l) (rights-above t rs r)
      (le_trans h.lo (whole t rs).lo (lefts t rs).hi (and_l (le h.lo (whole t rs).lo) (le (whole t rs).hi h.hi) k.inside) (le_trans (whole t rs).lo (lefts t rs).lo (lefts t rs).hi (left-whole t rs).low (gather-upright xs (below t) rs l)))
      (le_trans (rights t rs).lo (whole t rs).hi h.hi (le_trans (rights t rs).lo (rights t rs).hi (whole t rs).hi (gather-upright xs (above t) rs r) (right-whole t rs).high) (and_r (le h.lo (whole t rs).lo) (le (whole t rs).hi h.hi) k.inside))

  takable : Takable (shown (whole t rs) (told_x h (kept_of t rs n)))
  takable =
      cond_both (empty (whole t rs)) None (Some (told_x h (kept_of t rs n))) Takable (λ _. tt)
      (λ w. cond_both (ordinary h (kept_of t rs n)) _ _ (λ e. Takable (Some e)) (λ o. whole-takes w) (λ o. halves-take (halved h (kept_of t rs n) o) w))
    where
      whole-takes : empty (whole t rs) ≡ false → Takable (Some (whole t rs))
      whole-takes w = takes (whole t rs) (merged-plain_right (merged (lefts t rs) (mids t rs)) (rights t rs) (gather-plain xs (above t) rs)) (grind arith)

      halves-take : Halved h (kept_of t rs n) → empty (whole t rs) ≡ false → Takable (Some (pair (rights t rs).lo (lefts t rs).hi))
      halves-take k w =
          let x = split_wraps k w in
          let y = wraps-is (pair (rights t rs).lo (lefts t rs).hi) (held.right.0, held.left.1) in
          takes (pair (rights t rs).lo (lefts t rs).hi) (record { low = (gather-plain xs (above t) rs).low; high = (gather-plain xs (below t) rs).high }) (grind arith)

pub tells-takable : (h : Pair) (ss : List Shape) → HeldEnds h → HeldKept (record_of h ss) → Takable (told h (record_of h ss)).x
tells-takable h ss H k = takable h (runs_of ss) (codes_of ss) H (record { left = k.left; mid = k.mid; right = k.right })
