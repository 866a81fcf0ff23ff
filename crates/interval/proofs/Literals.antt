-- The literals of the code as floats.
use Rattle.std.proofs.Common.{◌≡◌, true, false, pos, refl}
use lib.Ieee.{inf, fin, binary64, of_bits}
use Rattle.std.specs.Float.{float_zero}

pub highest-bits : of_bits binary64 9218868437227405312 ≡ inf false
unfolding of_bits
highest-bits = refl

pub lowest-bits : of_bits binary64 18442240474082181120 ≡ inf true
unfolding of_bits
lowest-bits = refl

pub zero_bits : of_bits binary64 0 ≡ float_zero
unfolding of_bits
zero_bits = refl

pub two_bits : of_bits binary64 4611686018427387904 ≡ fin false 1 (pos 1)
unfolding of_bits
two_bits = refl
