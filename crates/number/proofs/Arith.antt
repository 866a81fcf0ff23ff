-- Sums, differences and halves of the values of an f64, and the order.
use Rattle.std.proofs.Common.{◌≡◌, suc, ◌+◌, ◌-◌, ◌*◌, ◌<◌, ◌≤◌, true, false, not, ◌&&◌, ◌||◌, T, ltb, leb, pos, negsuc, sym, refl, ◌∙◌, arith}
use lib.Ieee.{Float, Format, nan, inf, fin, binary64, up, down, unlike, add, sub, mul, div, lt, eq, le, is_nan, fits}
use lib.Ieee.Fits.{down_pos, inf-fits, add-fits, sub-fits}
use lib.Ieee.Scale.{round_same}
use Rattle.std.specs.Float.{float_zero, float_is_finite}
use Rattle.number.proofs.Rank as Rank
use Rattle.number.proofs.Rank.{reach, origin, origin-is}
use Rattle.number.proofs.Sum as Sum
use Rattle.number.proofs.Sum.{near, plus, less, limit, ends, near-pos, near-mono, near-sign, near-lowest, near-highest}
use Rattle.number.specs.Values.{Held, Value, Same}
use Rattle.number.proofs.Order.{rank, rank-top, lowest-is, highest-is, order, le_not_lt, same_rank, rank_same}

pub half : (f : Format) (x : Float) → div f x (fin false 1 (pos 1)) ≡ mul f x (fin false 1 (negsuc 0))
unfolding div mul
half f nan = refl
half f (inf s) = refl
half f (fin s m e) = round_same f (unlike s false) (m * up e * 1) (1 * 2 * down e) (m * up e * (1 * 1)) (down e * 2) (omega (arith, down_pos e)) (omega (arith, down_pos e)) (omega arith)

-- ---- the ranks of what is given and of what is computed
pub zero_held : Held float_zero
unfolding fits
zero_held = tt

pub zero_number : is_nan float_zero ≡ false
unfolding is_nan
zero_number = refl

pub zero_is : rank float_zero ≡ origin binary64
unfolding rank Rank.rank
zero_is = omega arith

pub finite_is : (x : Float) → Held x → float_is_finite x ≡ (ltb 1 (rank x) && ltb (suc (rank x)) (2 * origin binary64))
unfolding rank Rank.rank origin float_is_finite
finite_is nan h = refl
finite_is (inf s) h = grind arith
finite_is (fin s m e) h = let a = Rank.counted binary64 s m e h in grind arith

rank-inner : (x : Float) → Held x → 1 < rank x → suc (rank x) < 2 * origin binary64 → (suc (reach binary64) < rank x) × (rank x + suc (reach binary64) < 2 * origin binary64)
unfolding rank
rank-inner = Rank.rank-inner binary64

pub add-held : (x y : Float) → Held (add binary64 x y)
add-held = add-fits binary64

pub add_is : (x y : Float) → Held x → Held y → rank (add binary64 x y) ≡ plus binary64 (rank x) (rank y)
unfolding rank
add_is = Sum.add-rank binary64

pub add-num : (x y : Float) → Held x → Held y → T (not (is_nan (add binary64 x y))) → rank (add binary64 x y) ≡ near binary64 (rank x + rank y)
add-num x y h k n = let a = add_is x y h k in grind (order, add-held)

pub sub_held : (x y : Float) → Held (sub binary64 x y)
sub_held = sub-fits binary64

pub sub_is : (x y : Float) → Held x → Held y → rank (sub binary64 x y) ≡ less binary64 (rank x) (rank y)
unfolding rank
sub_is = Sum.sub-rank binary64

pub sub-num : (x y : Float) → Held x → Held y → T (not (is_nan (sub binary64 x y))) → rank (sub binary64 x y) ≡ near binary64 (rank x + (2 * origin binary64 - rank y))
sub-num x y h k n = let a = sub_is x y h k in grind (order, sub_held)

near-own : (x : Float) → Value x → near binary64 (rank x + origin binary64) ≡ rank x
unfolding rank
near-own x h = Sum.near-own binary64 x h.0 h.1

rank-of_le : (x y : Float) → Held x → Held y → T (le x y) → rank x ≤ rank y
rank-of_le x y h k p = grind order

le-of_rank : (x y : Float) → Value x → Value y → rank x ≤ rank y → T (le x y)
le-of_rank x y h k p = grind order

-- ---- a sum grows with each term, and sees only numbers
module _ (x y x' y' : Float) (h : Held x) (k : Held y) (h' : Held x') (k' : Held y') where
  pub add_mono : T (le x x') → T (le y y') → T (not (is_nan (add binary64 x y))) → T (not (is_nan (add binary64 x' y'))) → T (le (add binary64 x y) (add binary64 x' y'))
  add_mono p q n n' =
      le-of_rank _ _ (add-held x y, n) (add-held x' y', n')
      (rw (add-num x y h k n, add-num x' y' h' k' n') (near-mono binary64 _ _ (omega (arith, rank-of_le x x' h h' p, rank-of_le y y' k k' q))))

  pub sub_mono : T (le x x') → T (le y' y) → T (not (is_nan (sub binary64 x y))) → T (not (is_nan (sub binary64 x' y'))) → T (le (sub binary64 x y) (sub binary64 x' y'))
  sub_mono p q n n' =
      le-of_rank _ _ (sub_held x y, n) (sub_held x' y', n')
      (rw (sub-num x y h k n, sub-num x' y' h' k' n') (near-mono binary64 _ _ (omega (arith, rank-of_le x x' h h' p, rank-of_le y' y k' k q))))

  pub add_same : Same x x' → Same y y' → Same (add binary64 x y) (add binary64 x' y')
  add_same p q = rank_same _ _ (add-held x y) (add-held x' y') (add_is x y h k ∙ rw (same_rank x x' h h' p, same_rank y y' k k' q) refl ∙ sym (add_is x' y' h' k'))

  pub sub_same : Same x x' → Same y y' → Same (sub binary64 x y) (sub binary64 x' y')
  sub_same p q = rank_same _ _ (sub_held x y) (sub_held x' y') (sub_is x y h k ∙ rw (same_rank x x' h h' p, same_rank y y' k k' q) refl ∙ sym (sub_is x' y' h' k'))

-- ---- a finite distance at or above zero moves no number the wrong way
module _ (x d : Float) (h : Held x) (k : Held d) (n : T (not (is_nan x))) (r : T (float_is_finite d)) where
  pub add-number : T (not (is_nan (add binary64 x d)))
  add-number = let a = add_is x d h k in grind (order, add-held, finite_is, near-pos binary64)

  pub sub_number : T (not (is_nan (sub binary64 x d)))
  sub_number = let a = sub_is x d h k in grind (order, sub_held, finite_is, near-pos binary64)

  pub le-add : T (le float_zero d) → T (le x (add binary64 x d))
  le-add p =
      le-of_rank _ _ (h, n) (add-held x d, add-number)
      (rw (← near-own x (h, n), add-num x d h k add-number) (near-mono binary64 _ _ (omega (arith, zero_is, rank-of_le float_zero d zero_held k p))))

  pub sub-le : T (le float_zero d) → T (le (sub binary64 x d) x)
  sub-le p =
      le-of_rank _ _ (sub_held x d, sub_number) (h, n)
      (rw (← near-own x (h, n), sub-num x d h k sub_number) (near-mono binary64 _ _ (omega (arith, zero_is, rank-of_le float_zero d zero_held k p))))

-- ---- the terms of a sum that is a number; when a difference is a NaN, its sign, and when it is the lower infinity
module _ (x y : Float) (h : Held x) (k : Held y) where
  pub add-ends : T (not (is_nan (add binary64 x y))) → T (not (is_nan x)) × T (not (is_nan y))
  add-ends n = let a = add_is x y h k in (grind (order, add-held), grind (order, add-held))

  pub sub-nan : is_nan (sub binary64 x y) ≡ (is_nan x || is_nan y || (eq x y && not (float_is_finite x)))
  sub-nan = let w = rank-top x h in grind (order, sub_is, sub_held, finite_is, near-pos binary64)

  pub sub-below : lt (sub binary64 x y) float_zero ≡ lt x y
  sub-below = let w = rank-top y k in grind (order, sub_is, sub_held, zero_is, zero_held, near-sign binary64, near-pos binary64)

  pub sub-above : le float_zero (sub binary64 x y) ≡ (le y x && not (is_nan (sub binary64 x y)))
  sub-above =
      let a = le_not_lt float_zero (sub binary64 x y) zero_held (sub_held x y) in
      let b = le_not_lt y x k h in
      let c = sub-below in
      let d = sub-nan in
      grind (arith, zero_number)

  -- y lies `limit` units or more above x, an infinity being farther from all else than that
  pub sub-lowest : eq (sub binary64 x y) (inf true) ≡ (ltb 0 (rank x) && leb (rank x + limit binary64) (rank y))
  sub-lowest = let w = rank-top y k in let l = (ends binary64).0 in grind (order, sub_is, sub_held, lowest-is, inf-fits, near-lowest binary64)

  -- the difference turned round is then the upper infinity
  pub sub-highest : eq (sub binary64 y x) (inf false) ≡ (ltb 0 (rank x) && leb (rank x + limit binary64) (rank y))
  sub-highest = let v = rank-top x h in let w = rank-top y k in let l = (ends binary64).0 in grind (order, sub_is, sub_held, highest-is, inf-fits, near-highest binary64)

  pub sub-lowest_ends : eq (sub binary64 x y) (inf true) ≡ (lt x y && (not (float_is_finite x && float_is_finite y) || leb (rank x + limit binary64) (rank y)))
  sub-lowest_ends =
      let a = sub-lowest in
      let b = rank-inner x h in
      let c = rank-inner y k in
      let l = (ends binary64).0 in
      let m = (ends binary64).1 in
      let o = origin-is binary64 in
      let u = rank-top x h in
      let v = rank-top y k in
      grind (order, finite_is)

-- a gap from hi up to lo that narrows, and whose width was no infinity, is still a gap, and its width no infinity
pub narrower : (lo hi lo' hi' : Float) → Held lo → Held hi → Held lo' → Held hi' → T (le hi hi') → T (le lo' lo) → T (lt hi' lo') → T (not (eq (sub binary64 hi lo) (inf true)))
    → T (not (eq (sub binary64 hi' lo') (inf true))) × T (lt (sub binary64 hi' lo') float_zero)
narrower lo hi lo' hi' a b c d p q r n = (grind (order, sub-lowest), grind (order, sub-below))
