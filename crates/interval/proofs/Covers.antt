-- The laws of what `WraparoundInterval` answers.
use Rattle.std.proofs.Common.{◌≡◌, Bool, true, false, ◌&&◌, ◌||◌, T, refl, arith}
use lib.Ieee.{Float, inf, binary64, sub, eq, lt, le, is_nan}
use lib.Ieee.Fits.{inf-fits}
use Rattle.std.proofs.lemmas.Bool.{cond_both}
use Rattle.std.specs.Float.{float_min, float_max}
use Rattle.number.specs.Values.{Held, Value}
use Rattle.number.proofs.Plain.{lowest-le, le-highest}
use Rattle.number.proofs.Order.{order, least_held, most_held, least_le, le-most}
use Rattle.interval.specs.Pairs.{Pair, pair, between, sides, empty, wraps, covered}
use Rattle.interval.specs.Laws.{Inside, Inhabited, Common, Contains, Merges, Adds, Expands}
use Rattle.interval.specs.Ordinary as Ordinary
use Rattle.interval.specs.Wraparound as Wraparound
use Rattle.interval.specs.Wraparound.{left, right, closed, widens_lower, widened, merged, with_value, expanded}
use Rattle.interval.proofs.Between as Between
use Rattle.interval.proofs.Between.{Ends, upward, common, merged-ends}
use Rattle.interval.proofs.Wraps.{numbers, narrower, covered-sides, covered-between, between-covered, empty-covers, full_covers, gap_inner, closed-covers}

-- ---- intersects_interval
meets-comm : (p q : Pair) → Wraparound.meets p q ≡ Wraparound.meets q p
unfolding Wraparound.meets
meets-comm p q =
    swap (le (left p).lo (left q).hi) (le (left q).lo (left p).hi) (le (left p).lo (right q).hi) (le (right q).lo (left p).hi)
    (le (right p).lo (left q).hi) (le (left q).lo (right p).hi) (le (right p).lo (right q).hi) (le (right q).lo (right p).hi)
  where
    swap : (a b c d e f g h : Bool) → ((a && b) || (c && d) || (e && f) || (g && h)) ≡ ((b && a) || (f && e) || (d && c) || (h && g))
    swap a b c d e f g h = grind arith

side_meets : (p q : Pair) (v : Float) → Ends p → Ends q → Held v → wraps p ≡ true → wraps q ≡ false → T (covered p v) → T (covered q v) → T (Wraparound.meets p q)
unfolding Wraparound.meets
side_meets p q v (A, B) (C, D) V e f h k =
    let c = rw (covered-sides p v e) at h in
    let d = rw (covered-between q v f) at k in
    let x : T (le q.lo p.hi || le p.lo q.hi) = grind order in
    let y : is_nan q.lo ≡ false = grind order in
    let z : is_nan q.hi ≡ false = grind order in
    rw (e, f) (grind (arith, lowest-le, le-highest))

pub meets-always : (p q : Pair) → Ends p → Ends q → Common (covered p) (covered q) → T (Wraparound.meets p q)
meets-always p q (A, B) (C, D) (v, (V, n), h, k) = go (wraps p) (wraps q) refl refl
  where
    go : (x y : Bool) → wraps p ≡ x → wraps q ≡ y → T (Wraparound.meets p q)
    go true true e f =
        let c = numbers p (A, B) e in
        let d = numbers q (C, D) f in
        unfold Wraparound.meets in rw (e, f) (grind (arith, lowest-le, le-highest))
    go true false e f = side_meets p q v (A, B) (C, D) V e f h k
    go false true e f = rw (meets-comm p q) (side_meets q p v (C, D) (A, B) V f e k h)
    go false false e f =
        let m = (Between.meets p q (A, B) (C, D)).always (v, (V, n), rw (covered-between p v e) at h, rw (covered-between q v f) at k) in
        unfold Wraparound.meets in rw (e, f) (grind arith)

-- two pairs that wrap share the lowest value
both_common : (p q : Pair) → Ends p → Ends q → wraps p ≡ true → wraps q ≡ true → Common (covered p) (covered q)
both_common p q P Q e f =
    let ((A, a), (B, b)) = numbers p P e in
    let ((C, c), (D, d)) = numbers q Q f in
    let l = inf-fits binary64 true in
    (inf true, (l, unfold is_nan in tt), rw (covered-sides p (inf true) e) (grind (arith, lowest-le)), rw (covered-sides q (inf true) f) (grind (arith, lowest-le)))

-- a pair that wraps and one that does not share an end of the latter
side_common : (p q : Pair) → Ends p → Ends q → wraps p ≡ true → wraps q ≡ false → T (Wraparound.meets p q) → Inhabited (covered q) → Common (covered p) (covered q)
unfolding Wraparound.meets
side_common p q (A, B) (C, D) e f m (v, (V, n), k) = go (le q.lo p.hi) refl
  where
    up : T (le q.lo q.hi)
    up = upward q v (C, D) V (rw (covered-between q v f) at k)

    upper : le q.lo p.hi ≡ false → T (le p.lo q.hi)
    upper g = let r = rw (e, f) at m in let (x, y) = gap_inner p (A, B) e in grind arith

    go : (t : Bool) → le q.lo p.hi ≡ t → Common (covered p) (covered q)
    go true g = let u = up in (q.lo, (C, grind order), rw (covered-sides p q.lo e) (grind arith), rw (covered-between q q.lo f) (grind order))
    go false g =
        let u = up in
        let x = upper g in
        (q.hi, (D, grind order), rw (covered-sides p q.hi e) (grind arith), rw (covered-between q q.hi f) (grind order))

-- of two pairs that do not wrap, one may be the full interval
plain_common : (p q : Pair) → Ends p → Ends q → wraps p ≡ false → wraps q ≡ false → T (Wraparound.meets p q) → Inhabited (between p) → Inhabited (between q) → Common (between p) (between q)
unfolding Wraparound.meets
plain_common p q (A, B) (C, D) e f m (v, (V, n), h) (w, (W, o), k) = go (Ordinary.meets p q) (between p w) refl refl
  where
    go : (s t : Bool) → Ordinary.meets p q ≡ s → between p w ≡ t → Common (between p) (between q)
    go true t g i = common p q (A, B) (C, D) (upward p v (A, B) V h) (upward q w (C, D) W k) (grind arith)
    go false true g i = (w, (W, o), grind arith, k)
    go false false g i =
        let r = rw (e, f) at m in
        let x = full_covers p w (A, B) (W, o) in
        let y = full_covers q v (C, D) (V, n) in
        let z : le (inf false) (inf true) ≡ false = unfold le in refl in
        (v, (V, n), h, grind arith)

pub meets-only : (p q : Pair) → Ends p → Ends q → T (Wraparound.meets p q) → Inhabited (covered p) → Inhabited (covered q) → Common (covered p) (covered q)
meets-only p q P Q m h k = go (wraps p) (wraps q) refl refl
  where
    go : (x y : Bool) → wraps p ≡ x → wraps q ≡ y → Common (covered p) (covered q)
    go true true e f = both_common p q P Q e f
    go true false e f = side_common p q P Q e f m k
    go false true e f = let (v, V, a, b) = side_common q p Q P f e (rw (meets-comm q p) m) h in (v, V, b, a)
    go false false e f =
        let (v, V, a) = h in
        let (w, W, b) = k in
        let (u, U, c, d) = plain_common p q P Q e f m (v, V, rw (covered-between p v e) at a) (w, W, rw (covered-between q w f) at b) in
        (u, U, rw (covered-between p u e) c, rw (covered-between q u f) d)

-- ---- contains_interval
full_ends : (p : Pair) → Ends p → T (eq p.lo (inf true) && eq p.hi (inf false)) → T (le p.lo (inf true)) × T (le (inf false) p.hi)
full_ends p (A, B) h = (grind (order, inf-fits), grind (order, inf-fits))

both_sides : (p q : Pair) (v : Float) → Ends p → Ends q → Held v → T (Ordinary.contains p q) → T (sides q v) → T (sides p v)
both_sides p q v (A, B) (C, D) V r h = grind order

one_side : (p q : Pair) (v : Float) → Ends p → Ends q → Held v → T (le q.hi p.hi || le p.lo q.lo) → T (between q v) → T (sides p v)
one_side p q v (A, B) (C, D) V r h = grind order

either_side : (a b c d : Bool) → T ((a && b) || (c && d)) → T (b || d)
either_side a b c d h = grind arith

pub contains : (p q : Pair) → Ends p → Ends q → Contains (covered p) (covered q) (Wraparound.contains p q)
unfolding Wraparound.contains
contains p q (A, B) (C, D) r v (V, n) h = go (wraps p) (wraps q) refl refl
  where
    go : (x y : Bool) → wraps p ≡ x → wraps q ≡ y → T (covered p v)
    go true true e f = rw (covered-sides p v e) (both_sides p q v (A, B) (C, D) V (rw (e, f) at r) (rw (covered-sides q v f) at h))
    go true false e f = rw (covered-sides p v e) (one_side p q v (A, B) (C, D) V (either_side (le (inf true) q.lo) (le q.hi p.hi) (le q.lo q.hi) (le p.lo q.lo) (rw (e, f) at r)) (rw (covered-between q v f) at h))
    go false true e f =
        let (x, y) = full_ends p (A, B) (rw (e, f) at r) in
        rw (covered-between p v e) (full_covers p v (A, B) (V, n) x y)
    go false false e f = rw (covered-between p v e) (Between.contains p q (A, B) (C, D) (rw (e, f) at r) v (V, n) (rw (covered-between q v f) at h))

-- ---- merge_interval
-- what reaches outward of a pair that wraps covers its values, once closed
closed-mine : (p q : Pair) → Ends p → Ends q → wraps p ≡ true → T (le q.lo p.lo) → T (le p.hi q.hi) → Inside (covered p) (covered (closed q))
closed-mine p q (A, B) (C, D) e l h v (V, n) k =
    let s = rw (covered-sides p v e) at k in
    closed-covers p q v (A, B) (C, D) (V, n) e l h (grind order)

lower-ends : (p q : Pair) → Ends p → Ends q → Ends (pair p.lo (float_max p.hi q.hi))
lower-ends p q (A, B) (C, D) = (A, most_held p.hi q.hi B D)

upper_ends : (p q : Pair) → Ends p → Ends q → Ends (pair (float_min p.lo q.lo) p.hi)
upper_ends p q (A, B) (C, D) = (least_held p.lo q.lo A C, B)

-- the three ways to widen a pair that wraps move no end inward
outer : (p q : Pair) → Ends p → Ends q → wraps p ≡ true
    → T (le p.lo p.lo) × T (le p.hi p.hi) × T (le (float_min p.lo q.lo) p.lo) × T (le p.hi (float_max p.hi q.hi))
outer p q (A, B) (C, D) e =
    let ((A, a), (B, b)) = numbers p (A, B) e in
    let x : T (le p.lo p.lo) = grind order in
    let y : T (le p.hi p.hi) = grind order in
    (x, y, grind (arith, least_le), grind (arith, le-most))

widened-merges : (p q : Pair) → Ends p → Ends q → wraps p ≡ true → wraps q ≡ false → Merges (covered p) (covered q) (covered (widened p q))
unfolding widened
widened-merges p q P Q e f =
    cond_both (widens_lower p q) _ _ (λ r. Merges (covered p) (covered q) (covered (closed r)))
    (λ _. record { mine = closed-mine p (pair p.lo (float_max p.hi q.hi)) P (lower-ends p q P Q) e o.0 o.3; yours = lower })
    (λ _. record { mine = closed-mine p (pair (float_min p.lo q.lo) p.hi) P (upper_ends p q P Q) e o.2 o.1; yours = upper })
  where
    o : T (le p.lo p.lo) × T (le p.hi p.hi) × T (le (float_min p.lo q.lo) p.lo) × T (le p.hi (float_max p.hi q.hi))
    o = outer p q P Q e

    lower : Inside (covered q) (covered (closed (pair p.lo (float_max p.hi q.hi))))
    lower v (V, n) k =
        let (A, B) = P in
        let (C, D) = Q in
        let s = rw (covered-between q v f) at k in
        closed-covers p (pair p.lo (float_max p.hi q.hi)) v P (lower-ends p q P Q) (V, n) e o.0 o.3 (grind (arith, le-most))

    upper : Inside (covered q) (covered (closed (pair (float_min p.lo q.lo) p.hi)))
    upper v (V, n) k =
        let (A, B) = P in
        let (C, D) = Q in
        let s = rw (covered-between q v f) at k in
        closed-covers p (pair (float_min p.lo q.lo) p.hi) v P (upper_ends p q P Q) (V, n) e o.2 o.1 (grind (arith, least_le))

both_merges : (p q : Pair) → Ends p → Ends q → wraps p ≡ true → wraps q ≡ true → Merges (covered p) (covered q) (covered (closed (Ordinary.merged p q)))
both_merges p q (A, B) (C, D) e f =
    let ((A, a), (B, b)) = numbers p (A, B) e in
    let ((C, c), (D, d)) = numbers q (C, D) f in
    let x : T (le p.lo p.lo) = grind order in
    let y : T (le p.hi p.hi) = grind order in
    let z : T (le q.lo q.lo) = grind order in
    let w : T (le q.hi q.hi) = grind order in
    let m = merged-ends p q (A, B) (C, D) in
    record {
      mine = closed-mine p (Ordinary.merged p q) (A, B) m e (grind (arith, least_le)) (grind (arith, le-most));
      yours = closed-mine q (Ordinary.merged p q) (C, D) m f (grind (arith, least_le)) (grind (arith, le-most));
    }

plain_merges : (p q : Pair) → Ends p → Ends q → wraps p ≡ false → wraps q ≡ false → Merges (covered p) (covered q) (covered (Ordinary.merged p q))
plain_merges p q P Q e f =
    let m = Between.merges p q P Q in
    record {
      mine = λ v (V, n) h. between-covered (Ordinary.merged p q) v (merged-ends p q P Q) V (m.mine v (V, n) (rw (covered-between p v e) at h));
      yours = λ v (V, n) h. between-covered (Ordinary.merged p q) v (merged-ends p q P Q) V (m.yours v (V, n) (rw (covered-between q v f) at h));
    }

pub merges : (p q : Pair) → Ends p → Ends q → Merges (covered p) (covered q) (covered (merged p q))
unfolding merged
merges p q P Q =
    let M = λ (r : Pair). Merges (covered p) (covered q) (covered r) in
    cond_both (empty p) _ _ M (λ e. record { mine = λ v (V, n) h. absurd (empty-covers p v P V e h); yours = λ v V h. h })
    (λ _. cond_both (empty q) _ _ M (λ f. record { mine = λ v V h. h; yours = λ v (V, n) h. absurd (empty-covers q v Q V f h) })
    (λ _. cond_both (wraps p) _ _ M (λ g. cond_both (wraps q) _ _ M (λ i. both_merges p q P Q g i) (λ i. widened-merges p q P Q g i))
    (λ g. cond_both (wraps q) _ _ M (λ i. let m = widened-merges q p Q P i g in record { mine = m.yours; yours = m.mine }) (λ i. plain_merges p q P Q g i))))

-- ---- merge_value
-- the gap of a pair that wraps, from one of its values outward
module _ (p : Pair) (x : Float) (P : Ends p) (X : Value x) (e : wraps p ≡ true) (o : covered p x ≡ false) where
  inner : T (lt p.hi x) × T (lt x p.lo)
  inner =
      let ((A, a), (B, b)) = numbers p P e in
      let (V, n) = X in
      let s = rw (covered-sides p x e) at o in
      (grind order, grind order)

  -- the value becomes an end, and the pair wraps still
  pub lower-adds : Adds (covered p) x (covered (pair p.lo x))
  lower-adds =
      let ((A, a), (B, b)) = numbers p P e in
      let (V, n) = X in
      let (g, h) = inner in
      let w : wraps (pair p.lo x) ≡ true = narrower p (pair p.lo x) (A, B) (A, V) e (grind order) (grind order) h in
      record {
        old = λ v (W, m) k. let s = rw (covered-sides p v e) at k in rw (covered-sides (pair p.lo x) v w) (grind order);
        new = λ V. rw (covered-sides (pair p.lo x) x w) (grind order);
      }

  pub upper_adds : Adds (covered p) x (covered (pair x p.hi))
  upper_adds =
      let ((A, a), (B, b)) = numbers p P e in
      let (V, n) = X in
      let (g, h) = inner in
      let w : wraps (pair x p.hi) ≡ true = narrower p (pair x p.hi) (A, B) (V, B) e (grind order) (grind order) g in
      record {
        old = λ v (W, m) k. let s = rw (covered-sides p v e) at k in rw (covered-sides (pair x p.hi) v w) (grind order);
        new = λ V. rw (covered-sides (pair x p.hi) x w) (grind order);
      }

plain_adds : (p : Pair) (x : Float) → Ends p → Held x → wraps p ≡ false → Adds (covered p) x (covered (Ordinary.with_value p x))
plain_adds p x P X e =
    let m = Between.adds p x P X in
    let E = merged-ends p (pair x x) P (X, X) in
    record {
      old = λ v (V, n) h. between-covered (Ordinary.with_value p x) v E V (m.old v (V, n) (rw (covered-between p v e) at h));
      new = λ (V, n). between-covered (Ordinary.with_value p x) x E V (m.new (V, n));
    }

pub adds : (p : Pair) (x : Float) → Ends p → Held x → Adds (covered p) x (covered (with_value p x))
unfolding with_value
adds p x P X =
    let A = λ (r : Pair). Adds (covered p) x (covered r) in
    cond_both (covered p x || is_nan x) _ _ A (λ s. record { old = λ v V h. h; new = λ (V, m). grind arith })
    (λ s. cond_both (wraps p) _ _ A
    (λ g. cond_both (lt (sub binary64 x p.hi) (sub binary64 p.lo x)) _ _ A (λ _. lower-adds p x P (X, grind arith) g (grind arith)) (λ _. upper_adds p x P (X, grind arith) g (grind arith)))
    (λ g. plain_adds p x P X g))

-- ---- expand_by
pub expands : (p : Pair) (d : Float) → Ends p → Held d → Expands (covered p) d (covered (expanded p d))
unfolding expanded
expands p d P D f =
    let I = λ (r : Pair). Inside (covered p) (covered r) in
    cond_both (Ordinary.unmoved p d) _ _ I (λ _ v V h. h)
    (λ e. cond_both (wraps p) _ _ I
    (λ g.
    let (A, B) = numbers p P g in
    let (x, y) = Between.moves-ends p d A B D f (grind arith) (grind arith) in
    closed-mine p (Ordinary.moved p d) P (Between.moved_ends p d) g x y)
    (λ g v (V, n) h.
    between-covered (Ordinary.moved p d) v (Between.moved_ends p d) V (Between.moves p d P D f (grind arith) (grind arith) v (V, n) (rw (covered-between p v g) at h))))

-- ---- an answer that is the defined one keeps the law
pub contains-answer : (p q : Pair) (r : Bool) → Ends p → Ends q → r ≡ Wraparound.contains p q → record { law : Contains (covered p) (covered q) r; exact : r ≡ Wraparound.contains p q }
contains-answer p q r P Q e = record { law = rw e (contains p q P Q); exact = e }

pub merged-answer : (p q r : Pair) → Ends p → Ends q → r ≡ merged p q → record { law : Merges (covered p) (covered q) (covered r); exact : r ≡ merged p q }
merged-answer p q r P Q e = record { law = rw e (merges p q P Q); exact = e }

pub added-answer : (p : Pair) (x : Float) (r : Pair) → Ends p → Held x → r ≡ with_value p x → record { law : Adds (covered p) x (covered r); exact : r ≡ with_value p x }
added-answer p x r P X e = record { law = rw e (adds p x P X); exact = e }

pub expanded-answer : (p : Pair) (d : Float) (r : Pair) → Ends p → Held d → r ≡ expanded p d → record { law : Expands (covered p) d (covered r); exact : r ≡ expanded p d }
expanded-answer p d r P D e = record { law = rw e (expands p d P D); exact = e }
