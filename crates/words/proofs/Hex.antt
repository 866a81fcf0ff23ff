-- Texts of hexadecimal digits.
use Rattle.std.proofs.Common.{◌≡◌, ℕ, ◌^◌, ◌<◌, List, length, get_or, Ok, Err, Result, subst, arith}
use Rattle.std.specs.Result.{OkIff, result_ok}
use Rattle.std.specs.Str.Parse.{IsNumeral, ParsesUnsigned, digits_value}
use Rattle.std.proofs.lemmas.Int.Digits.{digits_value-lt}
use Rattle.std.proofs.lemmas.Str.Parse.{without_leading_plus_none}
use Rattle.words.specs.Readings.{Hex, ReadsHex}

-- 16 digits write a number of 64 bits
small : (ds : List ℕ) → Hex ds → digits_value 16 ds < 2 ^ 64
small ds h = subst (λ (n : ℕ). digits_value 16 ds < 16 ^ n) h.0 (digits_value-lt 16 ds h.1)

abbrev Read : {E : Type 0} → List ℕ → Result ℕ E → Type 0
Read ds s = OkIff s (IsNumeral 16 ds × (digits_value 16 ds < 2 ^ 64)) (digits_value 16 ds)

hex_from_read : {E : Type 0} (ds : List ℕ) (s : Result ℕ E) → length ds ≡ 16 → Read ds s → ReadsHex ds (result_ok s)
hex_from_read ds (Ok n) l h = ((l, h.0.0.1), h.1)
hex_from_read ds (Err e) l h = λ x. h ((omega (arith, l), x.1), small ds x)

-- what `from_str_radix` reads of 16 bytes that do not begin with a plus
pub hex_from_radix : {E : Type 0} (ds : List ℕ) (s : Result ℕ E) → length ds ≡ 16 → (get_or ds 0 0 ≡ 43 → ⊥) → ParsesUnsigned 64 16 ds s → ReadsHex ds (result_ok s)
hex_from_radix ds s l p h = hex_from_read ds s l (subst (λ (t : List ℕ). Read t s) (without_leading_plus_none ds p) h)
