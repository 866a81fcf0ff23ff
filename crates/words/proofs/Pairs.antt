-- Texts of bytes, read in pairs of hexadecimal digits.
use Rattle.std.proofs.Common.{◌≡◌, ℕ, suc, zero, ◌+◌, ◌*◌, ◌/◌, ◌%◌, ◌<◌, List, [], ◌∷◌, ◌++◌, length, get_or, drop, codes, refl, sym, ap, ◌∙◌, subst, inl, inr, below_more, arith}
use Rattle.std.proofs.lemmas.List.{get_or-take, get_or-drop, get_or_append_left, get_or_push, length_push}
use Rattle.std.specs.Simd.{first_chunks}
use Rattle.words.specs.Bytes.{HexOf, StandsFor, TwoDigits}

-- the i-th of the pairs ps writes the byte b
abbrev pub PairAt : List (List ℕ) → ℕ → ℕ → Type 0
PairAt ps i b = TwoDigits (get_or (get_or ps i []) 0 0) (get_or (get_or ps i []) 1 0) b

-- the first n pairs write the bytes bs
abbrev pub Front : List (List ℕ) → ℕ → List ℕ → Type 0
Front ps n bs = (length bs ≡ n) × ((i : ℕ) → i < n → PairAt ps i (get_or bs i 0))

pub front_more : (ps : List (List ℕ)) (n : ℕ) (bs : List ℕ) (b : ℕ) → Front ps n bs → PairAt ps n b → Front ps (n + 1) (bs ++ b ∷ [])
front_more ps n bs b f t = (
  length_push bs b ∙ ap (λ (m : ℕ). m + 1) f.0,
  below_more (λ i. PairAt ps i (get_or (bs ++ b ∷ []) i 0)) n
      (λ i h. subst (PairAt ps i) (sym (get_or_append_left bs (b ∷ []) 0 i (subst (λ (m : ℕ). i < m) (sym f.0) h))) (f.1 i h))
      (subst (PairAt ps n) (sym (get_or_push bs b 0 n f.0)) t),
)

read_pair : (ds : List ℕ) (n i j k : ℕ) → i < n → j < 2 → k ≡ 2 * i + j → get_or (get_or (first_chunks 2 n ds) i []) j 0 ≡ get_or ds k 0
read_pair ds zero i j k h l e = absurd (omega (arith, h))
read_pair ds (suc n) zero j k h l e = get_or-take 2 ds j 0 l ∙ ap (λ (m : ℕ). get_or ds m 0) (omega (arith, e))
read_pair ds (suc n) (suc i) j k h l e =
    read_pair (drop 2 ds) n i j (2 * i + j) (omega (arith, h)) l refl ∙ get_or-drop 2 ds (2 * i + j) 0 ∙ ap (λ (m : ℕ). get_or ds m 0) (omega (arith, e))

-- the pairs of a whole text
abbrev pub Pairs : List ℕ → List (List ℕ) → Type 0
Pairs ds ps = ps ≡ first_chunks 2 (length ds / 2) ds

-- the digits of the i-th pair stand at 2i and 2i + 1
digits : (ds : List ℕ) (ps : List (List ℕ)) → Pairs ds ps → (i b : ℕ) → i < length ds / 2 → PairAt ps i b ≡ TwoDigits (get_or ds (2 * i) 0) (get_or ds (2 * i + 1) 0) b
digits ds ps e i b h =
    ap (λ (qs : List (List ℕ)). PairAt qs i b) e ∙ (λ k. TwoDigits (read_pair ds (length ds / 2) i 0 (2 * i) h (omega arith) (omega arith) k) (read_pair ds (length ds / 2) i 1 (2 * i + 1) h (omega arith) refl k) b)

pub hex_from_pairs : (ds bs : List ℕ) (ps : List (List ℕ)) → Pairs ds ps → length ds % 2 ≡ 0 → Front ps (length ds / 2) bs → HexOf ds bs
hex_from_pairs ds bs ps e even f =
    (omega (arith, f.0), λ i h. let l : i < length ds / 2 = omega (arith, f.0, h) in subst (λ (P : Type 0). P) (digits ds ps e i (get_or bs i 0) l) (f.1 i l))

-- a pair that is not two digits
pub no_bytes : (w : List ℕ) (ps : List (List ℕ)) → Pairs w ps → (i : ℕ) → (w ≡ codes "-" → ⊥) → i < length w / 2 → ((b : ℕ) → PairAt ps i b → ⊥) → (bs : List ℕ) → StandsFor w bs → ⊥
no_bytes w ps e i plain l none bs (inl m) = plain m.0
no_bytes w ps e i plain l none bs (inr h) =
    none (get_or bs i 0) (subst (λ (P : Type 0). P) (sym (digits w ps e i (get_or bs i 0) l)) (h.1 i (omega (arith, l, h.0))))
