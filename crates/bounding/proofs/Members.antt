-- The codes listed of a set are those whose bits it has.
use Rattle.std.proofs.Common.{◌≡◌, ℕ, zero, suc, ◌+◌, ◌/◌, ◌%◌, ◌<◌, eqb, List, sym, refl, ap, ◌∙◌, subst, inl, inr, add-zero, arith}
use mathlib.Core.List.Memᴰ
use mathlib.Core.List.{Memᴰ}
use Rattle.std.specs.Int.{bit_at}
use Rattle.std.proofs.lemmas.Bool.{eqb-true, eq-eqb, cond_both}
use Rattle.std.proofs.lemmas.Nat.Bits.{bit_at_lowest, bit_at-suc}
use Rattle.shapes.specs.declared.code.Code.{Code}
use Rattle.shapes.specs.Codes.{code_number}
use Rattle.bounding.specs.Record.{place, codes_of}
use Rattle.bounding.specs.Numbers.{number_at, listed, Rising, NumbersExact}
use Rattle.bounding.proofs.BitSets.{place-small, shape-bit, bit_shape}

-- ---- the list of a set

-- the next place, counted from p or from the place after it
next : (p j : ℕ) → number_at (p + suc j) ≡ number_at (suc p + j)
next p j = ap number_at (omega arith)

-- numbers rise with their places
number-rises : (p j : ℕ) → number_at p < number_at (suc p + j)
number-rises p j = omega arith

-- each bit among the first n gives its number
bit_listed : (n p b j : ℕ) → j < n → bit_at b j ≡ 1 → Memᴰ (number_at (p + j)) (listed n p b)
unfolding listed
bit_listed zero p b j h o = absurd (omega arith)
bit_listed (suc n) p b zero h o = rw (add-zero, eq-eqb (b % 2) 1 (sym (bit_at_lowest b) ∙ o)) (Memᴰ.head refl)
bit_listed (suc n) p b (suc j) h o =
    let m = Memᴰ.cast (next p j) (bit_listed n (suc p) (b / 2) j (omega arith) (sym (bit_at-suc b j) ∙ o)) in
    cond_both (eqb (b % 2) 1) _ _ (λ (l : List ℕ). Memᴰ (number_at (p + suc j)) l) (λ e. Memᴰ.tail m) (λ e. m)

-- each number is that of a bit
listed-bit : (n p b k : ℕ) → Memᴰ k (listed n p b) → (j : ℕ) × (bit_at b j ≡ 1) × (k ≡ number_at (p + j))
unfolding listed
listed-bit zero p b k = λ m. absurd (Memᴰ.not-nil m)
listed-bit (suc n) p b k =
    let later : Memᴰ k (listed n (suc p) (b / 2)) → (j : ℕ) × (bit_at b j ≡ 1) × (k ≡ number_at (p + j)) =
    λ i. let r = listed-bit n (suc p) (b / 2) k i in (suc r.0, bit_at-suc b r.0 ∙ r.1, r.2 ∙ sym (next p r.0)) in
    cond_both (eqb (b % 2) 1) _ _ (λ (l : List ℕ). Memᴰ k l → (j : ℕ) × (bit_at b j ≡ 1) × (k ≡ number_at (p + j)))
    (λ e m. elim (Memᴰ.cases_cons m) [ inl h ↦ (0, bit_at_lowest b ∙ eqb-true (b % 2) 1 e, rw add-zero h) | inr i ↦ later i ]) (λ e m. later m)

-- each number is below those of later places
listed-rising : (n p b : ℕ) → Rising (listed n p b)
unfolding listed
listed-rising zero p b = tt
listed-rising (suc n) p b =
    let rest = listed-rising n (suc p) (b / 2) in
    cond_both (eqb (b % 2) 1) _ _ Rising
    (λ e. (λ k m. let r = listed-bit n (suc p) (b / 2) k m in subst (λ (x : ℕ). number_at p < x) (sym r.2) (number-rises p r.0), rest)) (λ e. rest)

-- ---- the list of shapes

-- the number at a code's place is the code's
number-place : (c : Code) → code_number c ≡ number_at (0 + place c)
number-place c = grind arith

pub numbers-exact : NumbersExact
numbers-exact ss =
    record {
      rising = listed-rising 28 0 (codes_of ss);
      holds = λ s m. Memᴰ.cast (number-place s.code) (bit_listed 28 0 (codes_of ss) (place s.code) (place-small s.code) (shape-bit m));
      only = λ n m.
          let r = listed-bit 28 0 (codes_of ss) n m in
          let s = bit_shape ss r.0 r.1 in
          (s.0, s.1, number-place s.0.code ∙ ap (λ (j : ℕ). number_at (0 + j)) s.2 ∙ sym r.2);
    }
