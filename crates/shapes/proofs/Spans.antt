-- One value more on a span, by `<` alone, and columns of points.
use Rattle.std.proofs.Common.{◌≡◌, ℕ, zero, suc, ◌+◌, ◌*◌, ◌<◌, ◌≤◌, Bool, true, false, cond, not, ◌||◌, T, List, ◌∷◌, length, get_or, take, drop, map, sym, refl, ap, ◌∙◌, subst, ap₂, add_comm, mul-suc, mul-zero, arith}
use lib.Ieee.{Float, nan, le, lt, is_nan}
use Rattle.std.specs.Float.{float_min, float_max}
use Rattle.std.proofs.lemmas.List.{drop-drop, get_or-drop, get_or-take}
use Rattle.std.proofs.lemmas.List.Folds.{fold-map}
use Rattle.std.proofs.lemmas.List.Sums.{fold-append, fold_more}
use Rattle.std.proofs.Math.Seq.{take-add}
use Rattle.std.specs.List.{fold}
use Rattle.std.specs.Simd.{first_chunks}
use Rattle.std.proofs.lemmas.Float.{le_left, le_right, le_of_lt}
use Rattle.number.proofs.Plain.{lt-is_not_le, not_le_of_lt}
use Rattle.interval.specs.Pairs.{Pair, pair, nothing}
use Rattle.interval.specs.Ordinary.{with_value}
use Rattle.shapes.specs.declared.endian.Endian.{Endian}
use Rattle.shapes.specs.declared.endian.Endian.TheVariants.{Big, Little}
use Rattle.shapes.specs.Columns.{column, column_of, with_bits}
use Rattle.shapes.specs.Numbers.{u64_at, f64_at}

-- ---- one value

-- the ends that `<` picks, where the end so far is a number
pub lower-taken : (a v : Float) → T (lt v a) → v ≡ float_min a v
lower-taken a v h =
    let e = not_le_of_lt v a h in
    let n = le_left v a (le_of_lt v a h) in
    grind arith

pub lower-left : (a v : Float) → T (not (is_nan a)) → T (not (lt v a)) → a ≡ float_min a v
lower-left a v p h = go (is_nan v) refl
  where
    go : (b : Bool) → is_nan v ≡ b → a ≡ float_min a v
    go true e = grind arith
    go false e =
        let q : T (not (is_nan v)) = subst (λ (z : Bool). T (not z)) (sym e) tt in
        let l = lt-is_not_le v a q p in
        grind arith

pub higher_taken : (a v : Float) → T (lt a v) → v ≡ float_max a v
higher_taken a v h =
    let e = not_le_of_lt a v h in
    let n = le_right a v (le_of_lt a v h) in
    grind arith

pub higher_left : (a v : Float) → T (not (is_nan a)) → T (not (lt a v)) → a ≡ float_max a v
higher_left a v p h = go (is_nan v) refl
  where
    go : (b : Bool) → is_nan v ≡ b → a ≡ float_max a v
    go true e = grind arith
    go false e =
        let q : T (not (is_nan v)) = subst (λ (z : Bool). T (not z)) (sym e) tt in
        let l = lt-is_not_le a v p q in
        grind arith

-- a NaN is no value
pub nan-value : (e : Pair) → with_value e nan ≡ e
unfolding is_nan
nan-value e = ap₂ pair (go (le e.lo nan) e.lo) (go (le nan e.hi) e.hi)
  where
    go : (b : Bool) (x : Float) → cond (b || true) x nan ≡ x
    go true x = refl
    go false x = refl

-- ---- points on their own

pub take-first_chunks : {X : Type 0} (s n k : ℕ) (xs : List X) → n ≤ k → take n (first_chunks s k xs) ≡ first_chunks s n xs
take-first_chunks s zero k xs h = refl
take-first_chunks s (suc n) zero xs h = absurd (omega arith)
take-first_chunks s (suc n) (suc k) xs h = let h' : n ≤ k = omega arith in ap (λ l. take s xs ∷ l) (take-first_chunks s n k (drop s xs) h')

get_or-first_chunks : {X : Type 0} (s k i : ℕ) (xs d : List X) → i < k → get_or (first_chunks s k xs) i d ≡ take s (drop (s * i) xs)
get_or-first_chunks s zero i xs d h = absurd (omega arith)
get_or-first_chunks s (suc k) zero xs d h = ap (λ m. take s (drop m xs)) (sym (mul-zero s))
get_or-first_chunks s (suc k) (suc i) xs d h =
    let h' : i < k = omega arith in
    get_or-first_chunks s k i (drop s xs) d h' ∙ ap (take s) (drop-drop (s * i) s xs ∙ ap (λ m. drop m xs) (add_comm s (s * i) ∙ sym (mul-suc s i)))

-- eight bytes of a point do not depend on what follows the point
u64-taken : (o : Endian) (at size : ℕ) (b : List ℕ) → at + 8 ≤ size → u64_at o (drop at (take size b)) ≡ u64_at o (drop at b)
u64-taken Big at size b h = grind (arith, get_or-take, get_or-drop)
u64-taken Little at size b h = grind (arith, get_or-take, get_or-drop)

module _ (o : Endian) (at : ℕ) where
  abbrev bits : List ℕ → ℕ
  bits p = u64_at o (drop at p)

  -- one point more
  pub one_more : (ps : List (List ℕ)) (i n : ℕ) (p : List ℕ) (e e' : Pair) → i < length ps → p ≡ get_or ps i p → n ≡ bits p → e ≡ column_of o at (take i ps) → e' ≡ with_bits e n → e' ≡ column_of o at (take (i + 1) ps)
  one_more ps i n p e e' h g f q r =
      r ∙ ap₂ with_bits q (f ∙ ap bits g) ∙ sym (fold_more (λ e p. with_bits e (bits p)) nothing ps i p h)

  -- four points more
  pub four_more : (ps : List (List ℕ)) (i k : ℕ) (four : List (List ℕ)) (ns : List ℕ) (e e' : Pair) → i < k → four ≡ get_or (first_chunks 4 k ps) i four → ns ≡ map bits four → e ≡ column_of o at (take (4 * i) ps) → e' ≡ fold with_bits e ns →
      e' ≡ column_of o at (take (4 * (i + 1)) ps)
  four_more ps i k four ns e e' h g f q r =
      let step : Pair → List ℕ → Pair = λ e p. with_bits e (bits p) in
      r ∙ ap₂ (fold with_bits) q (f ∙ ap (map bits) (g ∙ get_or-first_chunks 4 k i ps four h))
      ∙ fold-map with_bits bits (column_of o at (take (4 * i) ps)) (take 4 (drop (4 * i) ps))
      ∙ sym (fold-append step nothing (take (4 * i) ps) (take 4 (drop (4 * i) ps)))
      ∙ ap (column_of o at) (sym (take-add (4 * i) 4 ps) ∙ ap (λ m. take m ps) (let e : 4 * i + 4 ≡ 4 * (i + 1) = omega arith in e))

  -- the ordinates of n points of so many bytes are a column of their bytes
  pub column-is : (size n : ℕ) (b : List ℕ) (e : Pair) → at + 8 ≤ size → fold (λ e p. with_bits e (bits p)) e (first_chunks size n b) ≡ column o at size n b e
  unfolding column f64_at
  column-is size zero b e h = refl
  column-is size (suc n) b e h =
      column-is size n (drop size b) (with_bits e (bits (take size b))) h
      ∙ ap (λ m. column o at size n (drop size b) (with_bits e m)) (u64-taken o at size b h)
