-- The floats that an f64 holds, its values, and when two of them are the same number.
use Rattle.std.specs.Prelude.{Bool, not, ◌&&◌, ◌||◌, T, is_nan, Float}
use Rattle.std.specs.Float.{binary64}
use Rattle.std.specs.Float.Ieee.{eq, fits}

-- a float that an f64 holds
abbrev pub Held : Float → Type 0
Held x = T (fits binary64 x)

-- a value: an f64 other than NaN
abbrev pub Value : Float → Type 0
Value x = Held x × T (not (is_nan x))

-- equal as numbers, so that both zeros are one, or both NaN
abbrev pub same : Float → Float → Bool
same x y = eq x y || (is_nan x && is_nan y)

abbrev pub Same : Float → Float → Type 0
Same x y = T (same x y)
