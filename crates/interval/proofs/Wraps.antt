-- When a pair wraps, and what it then covers.
use Rattle.std.proofs.Common.{◌≡◌, Bool, true, false, cond, not, ◌&&◌, ◌||◌, T, refl, ◌∙◌, arith}
use lib.Ieee.{Float, inf, binary64, sub, eq, lt, le, is_nan}
use lib.Ieee.Fits.{inf-fits}
use Rattle.std.proofs.lemmas.Bool.{cond_both}
use Rattle.number.specs.Values.{Held, Value}
use Rattle.number.proofs.Plain.{lowest-le, le-highest}
use Rattle.number.proofs.Order.{order}
use Rattle.number.proofs.Arith.{sub-below, sub-lowest, sub-lowest_ends}
use Rattle.interval.specs.Pairs.{Pair, pair, between, sides, stored, width, empty, wraps, covered, nothing, everything}
use Rattle.interval.specs.Laws.{Equal, Nothing, Everything}
use Rattle.interval.specs.Wraparound.{left, right, closed}
use Rattle.interval.proofs.Between.{Ends, none, all, upward}

-- a pair wraps exactly if it goes down and is not empty
pub wraps-is : (p : Pair) → Ends p → wraps p ≡ (not (empty p) && lt p.hi p.lo)
unfolding wraps width
wraps-is p (A, B) = let s = sub-below p.hi p.lo B A in grind arith

pub empty-is_down : (p : Pair) → Ends p → T (empty p) → T (lt p.hi p.lo)
unfolding empty width
empty-is_down p (A, B) e = grind (arith, sub-lowest_ends)

pub upward_plain : (p : Pair) → Ends p → T (le p.lo p.hi) → wraps p ≡ false
upward_plain p (A, B) u = let w = wraps-is p (A, B) in grind order

pub downward : (p : Pair) → Ends p → wraps p ≡ true → T (lt p.hi p.lo)
downward p P e = let w = wraps-is p P in grind arith

-- the ends of a pair that wraps are numbers
pub numbers : (p : Pair) → Ends p → wraps p ≡ true → Value p.lo × Value p.hi
numbers p (A, B) e = let d = downward p (A, B) e in ((A, grind order), (B, grind order))

-- the gap of a pair that wraps lies within the infinities
pub gap_inner : (p : Pair) → Ends p → wraps p ≡ true → (le (inf false) p.hi ≡ false) × (le p.lo (inf true) ≡ false)
gap_inner p (A, B) e =
    let d = downward p (A, B) e in
    let x = le-highest p.lo in
    let y = lowest-le p.hi in
    (grind (order, inf-fits), grind (order, inf-fits))

-- a narrower gap is a gap still
pub narrower : (p q : Pair) → Ends p → Ends q → wraps p ≡ true → T (le q.lo p.lo) → T (le p.hi q.hi) → T (lt q.hi q.lo) → wraps q ≡ true
unfolding empty width
narrower p q (A, B) (C, D) w l h g =
    let x = wraps-is p (A, B) in
    let y = wraps-is q (C, D) in
    grind (order, sub-lowest)

-- ---- what is covered
pub covered-sides : (p : Pair) (v : Float) → wraps p ≡ true → covered p v ≡ sides p v
unfolding covered
covered-sides p v e = rw e

pub covered-between : (p : Pair) (v : Float) → wraps p ≡ false → covered p v ≡ between p v
unfolding covered
covered-between p v e = rw e

pub between-covered : (p : Pair) (v : Float) → Ends p → Held v → T (between p v) → T (covered p v)
between-covered p v P V h = rw (covered-between p v (upward_plain p P (upward p v P V h))) h

pub empty-plain : (p : Pair) → empty p ≡ true → wraps p ≡ false
unfolding wraps
empty-plain p e = rw e

pub empty-covers : (p : Pair) (v : Float) → Ends p → Held v → empty p ≡ true → T (covered p v) → ⊥
empty-covers p v (A, B) V e h =
    let d : T (lt p.hi p.lo) = empty-is_down p (A, B) (grind arith) in
    let c = covered-between p v (empty-plain p e) in
    grind order

pub covers-none : Nothing (covered nothing)
covers-none v V = covered-between nothing v (empty-plain nothing (unfold empty in unfold width in unfold sub in unfold eq in refl)) ∙ none v

pub covers-all : Everything (covered everything)
covers-all v V = covered-between everything v (upward_plain everything (inf-fits binary64 true, inf-fits binary64 false) (unfold le in tt)) ∙ all v V

-- ends at or beyond the infinities leave nothing out
pub full_covers : (p : Pair) (v : Float) → Ends p → Value v → T (le p.lo (inf true)) → T (le (inf false) p.hi) → T (between p v)
full_covers p v (A, B) (V, n) l h =
    let x = lowest-le v in
    let y = le-highest v in
    let c : T (le p.lo v) = grind (order, inf-fits) in
    let d : T (le v p.hi) = grind (order, inf-fits) in
    grind arith

-- what Parquet gives a pair of numbers that is not both downward and empty
pub covers-stored : (p : Pair) → Ends p → is_nan p.lo ≡ false → is_nan p.hi ≡ false → (lt p.hi p.lo && empty p) ≡ false → Equal (covered p) (stored p)
unfolding covered
covers-stored p (A, B) m n e v (V, k) =
    let w = wraps-is p (A, B) in
    let u : le p.lo p.hi ≡ not (lt p.hi p.lo) = grind order in
    grind arith

-- the two parts of a pair cover what it covers
pub parts : (p : Pair) (v : Float) → Ends p → Held v → (between (left p) v || between (right p) v) ≡ covered p v
unfolding covered
parts p v (A, B) V = go (wraps p)
  where
    go : (w : Bool) → (between (cond w (pair (inf true) p.hi) p) v || between (cond w (pair p.lo (inf false)) nothing) v) ≡ cond w (sides p v) (between p v)
    go true = let a = lowest-le v in let b = le-highest v in grind order
    go false = grind (arith, none)

-- sides moved outward, and closed where they meet, cover the values of both
pub closed-covers : (p q : Pair) (v : Float) → Ends p → Ends q → Value v → wraps p ≡ true → T (le q.lo p.lo) → T (le p.hi q.hi) → T (sides q v) → T (covered (closed q) v)
unfolding closed
closed-covers p q v (A, B) (C, D) (V, n) w l h s =
    cond_both (le q.lo q.hi) everything q (λ z. T (covered z v)) (λ _. rw (covers-all v (V, n)) tt)
    (λ e. rw (covered-sides q v (narrower p q (A, B) (C, D) w l h (grind order))) s)
