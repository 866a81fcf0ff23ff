-- The order of all floats, whether a format holds them or not.
use Rattle.std.proofs.Common.{◌≡◌, true, false, not, ◌&&◌, ◌||◌, T, refl, arith}
use lib.Ieee.{Float, nan, inf, fin, lt, eq, le, is_nan}
use Rattle.std.specs.Float.{float_min, float_max}
use Rattle.std.proofs.lemmas.Float.{lt_irrefl, le_of_lt, lt-or-eq, le_of_eq, lt_of_not-le, le_left, le_right, le_trans, lt_of_lt_of_le, eq_flip}

-- of two numbers one is at or below the other, and strictly so exactly if the other is not
pub not_le_of_lt : (x y : Float) → T (lt x y) → le y x ≡ false
not_le_of_lt x y h = let a = lt_of_lt_of_le x y x h in let b = lt_irrefl x in grind arith

pub lt-is_not_le : (x y : Float) → T (not (is_nan x)) → T (not (is_nan y)) → lt x y ≡ not (le y x)
lt-is_not_le x y h k = let a = not_le_of_lt x y in let b = lt_of_not-le y x k h in grind arith

pub le_total : (x y : Float) → T (is_nan x || is_nan y || le x y || le y x)
le_total x y = let a = lt_of_not-le x y in let b = le_of_lt y x in grind arith

pub eq-is_les : (x y : Float) → eq x y ≡ (le x y && le y x)
eq-is_les x y =
    let a = le_of_eq x y in
    let b = eq_flip x y in
    let c = le_of_eq y x in
    let d = lt-or-eq x y in
    let e = not_le_of_lt x y in
    grind arith

-- ---- the smaller and the larger of two keep the first of equal ones, so they may be bracketed in any way
pub least_assoc : (x y z : Float) → float_min (float_min x y) z ≡ float_min x (float_min y z)
least_assoc x y z =
    let a = le_trans x y z in
    let b = le_trans x z y in
    let c = le_total y z in
    let d = le_left y z in
    let e = le_right x y in
    grind arith

pub most_assoc : (x y z : Float) → float_max (float_max x y) z ≡ float_max x (float_max y z)
most_assoc x y z =
    let a = le_trans z y x in
    let b = le_trans y z x in
    let c = le_total y z in
    let d = le_right z y in
    let e = le_left y x in
    grind arith

-- a number is the smaller beside a NaN or the upper infinity, and the larger beside a NaN or the lower
pub least_nan_left : (x y : Float) → T (is_nan x) → T (not (is_nan y)) → float_min x y ≡ y
least_nan_left x y h k = let a = le_left x y in grind arith

pub most_nan_left : (x y : Float) → T (is_nan x) → T (not (is_nan y)) → float_max x y ≡ y
most_nan_left x y h k = let a = le_right y x in grind arith

pub lowest-le : (x : Float) → le (inf true) x ≡ not (is_nan x)
unfolding le lt eq is_nan
lowest-le nan = refl
lowest-le (inf true) = refl
lowest-le (inf false) = refl
lowest-le (fin s m e) = refl

pub le-highest : (x : Float) → le x (inf false) ≡ not (is_nan x)
unfolding le lt eq is_nan
le-highest nan = refl
le-highest (inf true) = refl
le-highest (inf false) = refl
le-highest (fin s m e) = refl

pub least_highest : (x : Float) → T (not (is_nan x)) → float_min x (inf false) ≡ x
least_highest x h = grind (arith, le-highest)

pub most_lowest : (x : Float) → T (not (is_nan x)) → float_max x (inf true) ≡ x
most_lowest x h = grind (arith, lowest-le)

-- the infinities on the left give way to any number that is not the same infinity, which is then the same float
pub highest-least : (x : Float) → T (not (is_nan x)) → float_min (inf false) x ≡ x
unfolding le lt eq is_nan
highest-least nan h = absurd h
highest-least (inf true) h = refl
highest-least (inf false) h = refl
highest-least (fin s m e) h = refl

pub lowest-most : (x : Float) → T (not (is_nan x)) → float_max (inf true) x ≡ x
unfolding le lt eq is_nan
lowest-most nan h = absurd h
lowest-most (inf true) h = refl
lowest-most (inf false) h = refl
lowest-most (fin s m e) h = refl
