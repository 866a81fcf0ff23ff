-- The values of an f64 in order: rules for `grind`, the smaller and the larger of two, and sameness as numbers.
use Rattle.std.proofs.Common.{◌≡◌, ℕ, suc, ◌*◌, ◌<◌, min, max, true, false, cond, not, ◌&&◌, ◌||◌, T, eqb, ltb, leb, sym, refl, ◌∙◌, arith}
use lib.Ieee.{Float, inf, binary64, lt, eq, le, is_nan}
use Rattle.std.specs.Float.{float_min, float_max}
use Rattle.number.specs.Values.{Held, Value, Same}
use Rattle.number.proofs.Plain as Plain
use Rattle.number.proofs.Rank as Rank
use Rattle.number.proofs.Rank.{origin}

unfoldable pub rank : Float → ℕ
rank x = Rank.rank binary64 x

pub le_is : (x y : Float) → Held x → Held y → le x y ≡ (ltb 0 (rank x) && leb (rank x) (rank y))
unfolding rank
le_is = Rank.le-rank binary64

pub lt-is : (x y : Float) → Held x → Held y → lt x y ≡ (ltb 0 (rank x) && ltb (rank x) (rank y))
unfolding rank
lt-is = Rank.lt-rank binary64

pub eq_is : (x y : Float) → Held x → Held y → eq x y ≡ (ltb 0 (rank x) && eqb (rank x) (rank y))
unfolding rank
eq_is = Rank.eq-rank binary64

pub nan_is : (x : Float) → Held x → is_nan x ≡ eqb (rank x) 0
unfolding rank
nan_is = Rank.nan-rank binary64

-- `grind order` proves what follows from comparisons and tests for a NaN
pub ruleset order = (arith, le_is, lt-is, eq_is, nan_is)

-- ---- numbers: `grind numbers` has no NaN to think of
pub le-num : (x y : Float) → Value x → Value y → le x y ≡ leb (rank x) (rank y)
le-num x y h k = grind order

pub lt-num : (x y : Float) → Value x → Value y → lt x y ≡ ltb (rank x) (rank y)
lt-num x y h k = grind order

pub eq-num : (x y : Float) → Value x → Value y → eq x y ≡ eqb (rank x) (rank y)
eq-num x y h k = grind order

pub nan-num : (x : Float) → Value x → is_nan x ≡ false
nan-num x h = grind order

pub ruleset numbers = (arith, le-num, lt-num, eq-num, nan-num)

-- ---- the ends of the order
pub rank-top : (x : Float) → Held x → rank x < 2 * origin binary64
unfolding rank
rank-top = Rank.rank-top binary64

pub lowest-is : rank (inf true) ≡ 1
unfolding rank Rank.rank origin
lowest-is = omega arith

pub highest-is : suc (rank (inf false)) ≡ 2 * origin binary64
unfolding rank Rank.rank origin
highest-is = omega arith

pub le_not_lt : (x y : Float) → Held x → Held y → le x y ≡ (not (lt y x) && not (is_nan x) && not (is_nan y))
le_not_lt x y h k = grind order

-- ---- a second rank, above all others at a NaN: with it on the left one test on naturals is the whole comparison
unfoldable pub left : Float → ℕ
left x = cond (eqb (rank x) 0) (2 * origin binary64) (rank x)

module _ (x y : Float) (h : Held x) (k : Held y) where
  pub le_left : le x y ≡ leb (left x) (rank y)
  unfolding left
  le_left = let a = rank-top y k in grind order

  pub lt-left : lt x y ≡ ltb (left x) (rank y)
  unfolding left
  lt-left = let a = rank-top y k in grind order

  pub eq-left : eq x y ≡ eqb (left x) (rank y)
  unfolding left
  eq-left = let a = rank-top y k in grind order

  -- ---- the smaller and the larger of two, and the other one where one is a NaN
  pub least_held : Held (float_min x y)
  least_held = grind arith

  pub most_held : Held (float_max x y)
  most_held = grind arith

  pub least_rank : left (float_min x y) ≡ min (left x) (left y)
  unfolding left
  least_rank = let a = rank-top x h in let b = rank-top y k in grind order

  pub most_rank : rank (float_max x y) ≡ max (rank x) (rank y)
  most_rank = grind order

  pub least_nan : is_nan (float_min x y) ≡ (is_nan x && is_nan y)
  least_nan = grind order

  pub most_nan : is_nan (float_max x y) ≡ (is_nan x && is_nan y)
  most_nan = grind order

  module _ (z : Float) (l : Held z) where
    pub least_le : le (float_min x y) z ≡ (le x z || le y z)
    least_le = grind order

    pub le-most : le z (float_max x y) ≡ (le z x || le z y)
    le-most = grind order

    -- the greatest lower bound of two numbers, and the least upper bound
    pub le-least : T (not (is_nan x)) → T (not (is_nan y)) → le z (float_min x y) ≡ (le z x && le z y)
    le-least p q = grind order

    pub most_le : T (not (is_nan x)) → T (not (is_nan y)) → le (float_max x y) z ≡ (le x z && le y z)
    most_le p q = grind order

-- ---- the same number
module _ (x y : Float) (h : Held x) (k : Held y) where
  pub same_rank : Same x y → rank x ≡ rank y
  same_rank e = grind order

  pub rank_same : rank x ≡ rank y → Same x y
  rank_same e = grind order

  same_left : Same x y → left x ≡ left y
  unfolding left
  same_left e = rw (same_rank e)

  left-same : left x ≡ left y → Same x y
  unfolding left
  left-same e = let a = rank-top x h in let b = rank-top y k in grind order

pub same_refl : (x : Float) → Held x → Same x x
same_refl x h = grind order

pub same-sym : (x y : Float) → Held x → Held y → Same x y → Same y x
same-sym x y h k p = grind order

pub same-trans : (x y z : Float) → Held x → Held y → Held z → Same x y → Same y z → Same x z
same-trans x y z h k l p q = grind order

pub least_idem : (x : Float) → float_min x x ≡ x
least_idem x = grind arith

pub most_idem : (x : Float) → float_max x x ≡ x
most_idem x = grind arith

module _ (x y : Float) (h : Held x) (k : Held y) where
  pub least_comm : Same (float_min x y) (float_min y x)
  least_comm = grind order

  pub most_comm : Same (float_max x y) (float_max y x)
  most_comm = grind order

  pub least_assoc : (z : Float) → Held z → Same (float_min (float_min x y) z) (float_min x (float_min y z))
  least_assoc z l = rw (Plain.least_assoc x y z) (same_refl _ (least_held x (float_min y z) h (least_held y z k l)))

  pub most_assoc : (z : Float) → Held z → Same (float_max (float_max x y) z) (float_max x (float_max y z))
  most_assoc z l = rw (Plain.most_assoc x y z) (same_refl _ (most_held x (float_max y z) h (most_held y z k l)))

-- what is the same may stand for the other
module _ (x y x' y' : Float) (h : Held x) (k : Held y) (h' : Held x') (k' : Held y') (p : Same x x') (q : Same y y') where
  pub le_same : le x y ≡ le x' y'
  le_same = le_is x y h k ∙ rw (same_rank x x' h h' p, same_rank y y' k k' q) refl ∙ sym (le_is x' y' h' k')

  pub lt_same : lt x y ≡ lt x' y'
  lt_same = lt-is x y h k ∙ rw (same_rank x x' h h' p, same_rank y y' k k' q) refl ∙ sym (lt-is x' y' h' k')

  pub least_same : Same (float_min x y) (float_min x' y')
  least_same = left-same _ _ (least_held x y h k) (least_held x' y' h' k') (omega (arith, least_rank x y h k, least_rank x' y' h' k', same_left x x' h h' p, same_left y y' k k' q))

  pub most_same : Same (float_max x y) (float_max x' y')
  most_same = rank_same _ _ (most_held x y h k) (most_held x' y' h' k') (omega (arith, most_rank x y h k, most_rank x' y' h' k', same_rank x x' h h' p, same_rank y y' k k' q))
