-- The codes of a set, place by place.
use Rattle.std.proofs.Common.{◌≡◌, ℕ, suc, ◌+◌, ◌-◌, ◌/◌, ◌%◌, ◌<◌, ◌≤◌, false, cond, eqb, List, [], ◌∷◌, ◌++◌, sym, refl, ap, ◌∙◌, append_assoc, add-one, arith}
use Rattle.bounding.specs.Numbers.{number_at, listed}

-- one of the 28 places more
left : (p : ℕ) → p < 28 → 28 - p ≡ suc (28 - (p + 1))
left p h = omega arith

pub listed-none : (p b : ℕ) → 28 ≤ p → listed (28 - p) p b ≡ []
unfolding listed
listed-none p b h = ap (λ (n : ℕ). listed n p b) (let e : 28 - p ≡ 0 = omega arith in e)

module _ (xs : List ℕ) (p b : ℕ) (h : p < 28) where
  there : listed (28 - p) p b ≡ cond (eqb (b % 2) 1) (number_at p ∷ listed (28 - (p + 1)) (p + 1) (b / 2)) (listed (28 - (p + 1)) (p + 1) (b / 2))
  unfolding listed
  there = rw (left p h, add-one p) refl

  pub listed_in : b % 2 ≡ 1 → (xs ++ number_at p ∷ []) ++ listed (28 - (p + 1)) (p + 1) (b / 2) ≡ xs ++ listed (28 - p) p b
  listed_in o = append_assoc xs (number_at p ∷ []) (listed (28 - (p + 1)) (p + 1) (b / 2)) ∙ ap (λ (z : List ℕ). xs ++ z) (sym (there ∙ rw o))

  pub listed-out : (b % 2 ≡ 1 → ⊥) → xs ++ listed (28 - (p + 1)) (p + 1) (b / 2) ≡ xs ++ listed (28 - p) p b
  listed-out o = let e : eqb (b % 2) 1 ≡ false = grind arith in ap (λ (z : List ℕ). xs ++ z) (sym (there ∙ rw e))
