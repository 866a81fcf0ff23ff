-- What a word is read as where a number is wanted.
use Rattle.std.specs.Prelude.{◌≡◌, ℕ, ◌^◌, ◌<◌, List, ◌∷◌, length, pos, is_some, Some, Option, MatchOption, ◌≢◌, from_bits, Float}
use Rattle.std.specs.Float.{binary64}
use Rattle.std.specs.Float.Ieee.{of_int}
use Rattle.std.specs.Float.Parse.{is_float_text}
use Rattle.std.specs.Str.Parse.{AllDigits, IsNumeral, without_leading_plus, digits_value}

-- 16 hexadecimal digits
abbrev pub Hex : List ℕ → Type 0
Hex ds = (length ds ≡ 16) × AllDigits 16 ds

-- r is the number that 16 hexadecimal digits write, and none of other texts
abbrev pub ReadsHex : List ℕ → Option ℕ → Type 0
ReadsHex ds r = MatchOption r (Hex ds → ⊥) (λ n. Hex ds × (n ≡ digits_value 16 ds))

-- r is the float with the bits that 16 hexadecimal digits write, and none of other texts
abbrev pub ReadsBits : List ℕ → Option Float → Type 0
ReadsBits ds r = MatchOption r (Hex ds → ⊥) (λ x. Hex ds × (x ≡ from_bits binary64 (digits_value 16 ds)))

-- r is some float just where the text is a float's, and a whole number is rounded to the nearest
abbrev pub ReadsText : List ℕ → Option Float → Type 0
ReadsText w r =
    (is_some r ≡ is_float_text w)
    × (IsNumeral 10 (without_leading_plus w) → digits_value 10 (without_leading_plus w) < 2 ^ 64 → r ≡ Some (of_int binary64 (pos (digits_value 10 (without_leading_plus w)))))

-- behind `0x` stand the digits of the bits, and any other word is a float's text
abbrev pub Reads : List ℕ → Option Float → Type 0
Reads w r = ((ds : List ℕ) → w ≡ 48 ∷ 120 ∷ ds → ReadsBits ds r) × (((ds : List ℕ) → w ≢ 48 ∷ 120 ∷ ds) → ReadsText w r)
