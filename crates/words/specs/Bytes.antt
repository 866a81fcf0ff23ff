-- What a word is read as where bytes are wanted.
use Rattle.std.specs.Prelude.{◌≡◌, ℕ, ◌+◌, ◌*◌, ◌<◌, ◌⊎◌, List, [], length, codes, Option, MatchOption, slice_index}
use Rattle.std.specs.Char.{digit_value}

-- the digits h and l, hexadecimal both, write the byte b
abbrev pub TwoDigits : ℕ → ℕ → ℕ → Type 0
TwoDigits h l b = (digit_value h < 16) × (digit_value l < 16) × (b ≡ 16 * digit_value h + digit_value l)

-- the text ds writes the bytes bs, two digits each
abbrev pub HexOf : List ℕ → List ℕ → Type 0
HexOf ds bs = (length ds ≡ 2 * length bs) × ((k : ℕ) → k < length bs → TwoDigits (slice_index ds (2 * k)) (slice_index ds (2 * k + 1)) (slice_index bs k))

-- the word w stands for the bytes bs: a lone minus for no bytes
abbrev pub StandsFor : List ℕ → List ℕ → Type 0
StandsFor w bs = ((w ≡ codes "-") × (bs ≡ [])) ⊎ HexOf w bs

-- r has the bytes that the word stands for, and none where it stands for none
abbrev pub ReadsBytes : {V : Type 0} → (V → List ℕ) → List ℕ → Option V → Type 0
ReadsBytes items w r = MatchOption r ((bs : List ℕ) → StandsFor w bs → ⊥) (λ v. StandsFor w (items v))
