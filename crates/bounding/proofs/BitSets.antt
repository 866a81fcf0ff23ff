-- The set of the codes of shapes, by its bits.
use Rattle.std.proofs.Common.{◌≡◌, ℕ, ◌^◌, ◌<◌, ◌≤◌, List, [], ◌∷◌, ◌++◌, sym, refl, ap, ◌∙◌, subst, inl, inr, le_antisymm, arith, lit<}
use mathlib.Core.List.{Memᴰ}
use lib.Bits.{bit_or, or_zero_l, or_lt}
use Rattle.std.specs.Int.{bit_at}
use Rattle.std.proofs.lemmas.Bool.{cases_eq}
use Rattle.std.proofs.lemmas.Nat.{pow_below}
use Rattle.std.proofs.lemmas.Nat.Bits.{bit_at-zero, bit_at_or, bit_at-pow_same, bit_at-pow_other, bit_at-lt, same_from_bits}
use Rattle.shapes.specs.declared.code.Code.{Code}
use Rattle.shapes.specs.declared.code.Kind.{Kind}
use Rattle.shapes.specs.declared.code.Dimension.{Dimension}
use Rattle.shapes.specs.Codes.{kind_number, dim_number}
use Rattle.shapes.specs.Source.{Shape}
use Rattle.bounding.specs.Record.{place, codes_of}

pub or_assoc : (a b c : ℕ) → bit_or (bit_or a b) c ≡ bit_or a (bit_or b c)
or_assoc a b c = same_from_bits (bit_or (bit_or a b) c) (bit_or a (bit_or b c)) (λ i. grind (arith, bit_at_or))

pub codes-append : (a b : List Shape) → codes_of (a ++ b) ≡ bit_or (codes_of a) (codes_of b)
unfolding codes_of
codes-append [] b = sym (or_zero_l (codes_of b))
codes-append (s ∷ a) b = ap (bit_or (2 ^ place s.code)) (codes-append a b) ∙ sym (or_assoc (2 ^ place s.code) (codes_of a) (codes_of b))

-- a set has the bit of each shape
pub shape-bit : {s : Shape} {ss : List Shape} → Memᴰ s ss → bit_at (codes_of ss) (place s.code) ≡ 1
unfolding codes_of
shape-bit {s} (Memᴰ.head {x = t} {xs = ts} e) =
    let h : bit_at (2 ^ place t.code) (place s.code) ≡ 1 = subst (λ (z : Shape). bit_at (2 ^ place z.code) (place s.code) ≡ 1) e (bit_at-pow_same (place s.code)) in
    grind (arith, bit_at_or, bit_at-lt (codes_of ts) (place s.code))
shape-bit {s} (Memᴰ.tail {x = t} {xs = ts} m) = let h = shape-bit m in grind (arith, bit_at_or, bit_at-lt (2 ^ place t.code) (place s.code))

-- a shape with its bit at this place
abbrev ShapeAt : ℕ → List Shape → Type 0
ShapeAt j ss = (s : Shape) × Memᴰ s ss × (place s.code ≡ j)

-- each bit of a set is that of a shape
pub bit_shape : (ss : List Shape) (j : ℕ) → bit_at (codes_of ss) j ≡ 1 → ShapeAt j ss
unfolding codes_of
bit_shape [] j h = absurd (omega (arith, bit_at-zero j))
bit_shape (s ∷ ss) j h =
    elim (cases_eq j (place s.code)) [
      | inl e ↦ (s, Memᴰ.head refl, sym e)
      | inr n ↦ let r = bit_shape ss j (grind (arith, bit_at_or, bit_at-pow_other (place s.code) j n)) in (r.0, Memᴰ.tail r.1, r.2)
    ]

-- the same shapes have the same set
bits-into : (a b : List Shape) → ((s : Shape) → Memᴰ s a → Memᴰ s b) → (j : ℕ) → bit_at (codes_of a) j ≤ bit_at (codes_of b) j
bits-into a b f j =
    elim (cases_eq (bit_at (codes_of a) j) 1) [
      | inl e ↦ let r = bit_shape a j e in let h = subst (λ (k : ℕ). bit_at (codes_of b) k ≡ 1) r.2 (shape-bit (f r.0 r.1)) in omega arith
      | inr n ↦ let h = bit_at-lt (codes_of a) j in omega arith
    ]

pub codes_same : (a b : List Shape) → ((s : Shape) → Memᴰ s a → Memᴰ s b) → ((s : Shape) → Memᴰ s b → Memᴰ s a) → codes_of a ≡ codes_of b
codes_same a b f g = same_from_bits (codes_of a) (codes_of b) (λ j. le_antisymm (bits-into a b f j) (bits-into b a g j))

-- ---- the set has 28 bits
dim-small : (d : Dimension) → dim_number d ≤ 3
dim-small d = grind arith

pub kind-range : (k : Kind) → (1 ≤ kind_number k) × (kind_number k ≤ 7)
kind-range k = (grind arith, grind arith)

pub place-small : (c : Code) → place c < 28
place-small c = omega (arith, dim-small c.dim, kind-range c.kind)

pub codes-small : (ss : List Shape) → codes_of ss < 2 ^ 28
unfolding codes_of
codes-small [] = lit< tt
codes-small (s ∷ ss) = or_lt 28 (2 ^ place s.code) (codes_of ss) (pow_below (place s.code) 28 (place-small s.code)) (codes-small ss)
