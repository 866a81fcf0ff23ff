-- Ordinates of bytes.
use Rattle.std.proofs.Common.{◌≡◌, refl}
use lib.Ieee.{of_bits, binary64, nan}

-- the bits of the program's NaN
pub nan_is : of_bits binary64 0x7ff8_0000_0000_0000 ≡ nan
unfolding of_bits
nan_is = refl
