-- The coordinates of a line's bytes, and their ordinates by columns.
use Rattle.std.specs.Prelude.{ℕ, zero, suc, ◌*◌, Bool, true, List, [], ◌∷◌, drop, from_bits}
use Rattle.std.specs.Float.{binary64}
use Rattle.std.specs.List.{fold}
use Rattle.interval.specs.Pairs.{Pair, pair, nothing}
use Rattle.interval.specs.Ordinary.{with_value}
use Rattle.shapes.specs.declared.code.Dimension.{Dimension}
use Rattle.shapes.specs.declared.coord.Coord.{Coord}
use Rattle.shapes.specs.declared.endian.Endian.{Endian}
use Rattle.shapes.specs.declared.span.Span.{Span}
use Rattle.shapes.specs.Codes.{width}
use Rattle.shapes.specs.Numbers.{u64_at, f64_at, coord_at}

-- n coordinates that stand one after another, the first of which joins if j says so; the others do
unfoldable pub run : Endian → Dimension → Bool → ℕ → List ℕ → List Coord
run o d j zero b = []
run o d j (suc n) b = coord_at o d j b ∷ run o d true n (drop (8 * width d) b)

-- e with n ordinates more, that stand size bytes apart, the first of them at bytes in
unfoldable pub column : Endian → ℕ → ℕ → ℕ → List ℕ → Pair → Pair
column o at size zero b e = e
column o at size (suc n) b e = column o at size n (drop size b) (with_value e (f64_at o (drop at b)))

-- ---- the program's values

abbrev pub spanned : Span → Pair
spanned s = pair s.lo s.hi

-- e with the value of these bits more
abbrev pub with_bits : Pair → ℕ → Pair
with_bits e bits = with_value e (from_bits binary64 bits)

-- the ordinates that stand at bytes in, of points that are each a list of bytes
abbrev pub column_of : Endian → ℕ → List (List ℕ) → Pair
column_of o at = fold (λ e p. with_bits e (u64_at o (drop at p))) nothing
