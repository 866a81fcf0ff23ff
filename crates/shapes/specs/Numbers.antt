-- Numbers and coordinates in bytes, in either byte order.
use Rattle.std.specs.Prelude.{ℕ, ◌+◌, ◌*◌, Bool, cond, List, drop, Some, None, Option, ◌==◌, from_bits, slice_index, Float}
use Rattle.std.specs.Float.{nan, binary64}
use Rattle.shapes.specs.declared.endian.Endian.{Endian}
use Rattle.shapes.specs.declared.endian.Endian.TheVariants.{Big, Little}
use Rattle.shapes.specs.declared.code.Dimension.{Dimension}
use Rattle.shapes.specs.declared.code.Dimension.TheVariants.{Xy, Xyz, Xym, Xyzm}
use Rattle.shapes.specs.declared.coord.Coord.{Coord}

-- order byte 0 is most significant byte first, 1 least significant first
abbrev pub order_of : ℕ → Option Endian
order_of n = cond (n == 0) (Some Big) (cond (n == 1) (Some Little) None)

-- the number in the first four bytes
abbrev pub u32_at : Endian → List ℕ → ℕ
u32_at Big b = slice_index b 0 * 16777216 + slice_index b 1 * 65536 + slice_index b 2 * 256 + slice_index b 3
u32_at Little b = slice_index b 0 + slice_index b 1 * 256 + slice_index b 2 * 65536 + slice_index b 3 * 16777216

-- the number in the first eight
abbrev pub u64_at : Endian → List ℕ → ℕ
u64_at Big b = slice_index b 0 * 72057594037927936 + slice_index b 1 * 281474976710656 + slice_index b 2 * 1099511627776 + slice_index b 3 * 4294967296 + slice_index b 4 * 16777216 + slice_index b 5 * 65536 + slice_index b 6 * 256 + slice_index b 7
u64_at Little b = slice_index b 0 + slice_index b 1 * 256 + slice_index b 2 * 65536 + slice_index b 3 * 16777216 + slice_index b 4 * 4294967296 + slice_index b 5 * 1099511627776 + slice_index b 6 * 281474976710656 + slice_index b 7 * 72057594037927936

-- the float whose bits they are
unfoldable pub f64_at : Endian → List ℕ → Float
f64_at o b = from_bits binary64 (u64_at o b)

-- the coordinate whose ordinates stand at the start; an axis that the dimension lacks is NaN
abbrev pub coord_at : Endian → Dimension → Bool → List ℕ → Coord
coord_at o Xy j b = record { x = f64_at o b; y = f64_at o (drop 8 b); z = nan; m = nan; joins = j }
coord_at o Xyz j b = record { x = f64_at o b; y = f64_at o (drop 8 b); z = f64_at o (drop 16 b); m = nan; joins = j }
coord_at o Xym j b = record { x = f64_at o b; y = f64_at o (drop 8 b); z = nan; m = f64_at o (drop 16 b); joins = j }
coord_at o Xyzm j b = record { x = f64_at o b; y = f64_at o (drop 8 b); z = f64_at o (drop 16 b); m = f64_at o (drop 24 b); joins = j }
