-- The laws of the values from lo to hi, for what `Interval` answers.
use Rattle.std.proofs.Common.{◌≡◌, true, false, T, refl, inl, inr, arith}
use Rattle.std.proofs.lemmas.Bool.{cases_Bool}
use lib.Ieee.{Float, nan, inf, fin, lt, le, is_nan}
use Rattle.std.specs.Float.{float_zero, float_is_finite}
use Rattle.number.specs.Values.{Held, Value}
use Rattle.number.proofs.Plain.{lowest-le, le-highest}
use Rattle.number.proofs.Order.{order, least_held, most_held, least_le, le-most}
use Rattle.number.proofs.Arith.{zero_held, zero_number, sub-le, le-add, add-held, sub_held}
use Rattle.interval.specs.Pairs.{Pair, pair, between, stored, nothing, everything}
use Rattle.interval.specs.Laws.{Inside, Common, Meets, Merges, Adds, Everything}
use Rattle.interval.specs.Ordinary as Ordinary

-- an f64 holds each end
abbrev pub Ends : Pair → Type 0
Ends p = Held p.lo × Held p.hi

pub none : (v : Float) → between nothing v ≡ false
unfolding le
none nan = refl
none (inf true) = refl
none (inf false) = refl
none (fin s m e) = refl

pub all : Everything (between everything)
all v (V, n) = grind (arith, lowest-le, le-highest)

-- a pair that covers a value goes up
pub upward : (p : Pair) (v : Float) → Ends p → Held v → T (between p v) → T (le p.lo p.hi)
upward p v (A, B) V h = grind order

pub stored-upward : (p : Pair) (v : Float) → le p.lo p.hi ≡ true → between p v ≡ stored p v
stored-upward p v u = rw u

-- ends farther out lose nothing
pub outward : (p q : Pair) (v : Float) → Ends p → Ends q → Held v → T (le q.lo p.lo) → T (le p.hi q.hi) → T (between p v) → T (between q v)
outward p q v (A, B) (C, D) V l r h = grind order

-- the higher of the two lower ends is common to pairs that meet
pub common : (p q : Pair) → Ends p → Ends q → T (le p.lo p.hi) → T (le q.lo q.hi) → T (Ordinary.meets p q) → Common (between p) (between q)
common p q (A, B) (C, D) h k m =
    elim (cases_Bool (le p.lo q.lo)) [
      | inl e ↦ (q.lo, (C, grind order), grind order, grind order)
      | inr e ↦ (p.lo, (A, grind order), grind order, grind order)
    ]

pub meets : (p q : Pair) → Ends p → Ends q → Meets (between p) (between q) (Ordinary.meets p q)
meets p q (A, B) (C, D) =
    record {
      always = λ (v, (V, n), h, k). grind order;
      only = λ m (v, (V, n), h) (w, (W, o), k). common p q (A, B) (C, D) (upward p v (A, B) V h) (upward q w (C, D) W k) m;
    }

pub contains : (p q : Pair) → Ends p → Ends q → T (Ordinary.contains p q) → Inside (between q) (between p)
contains p q (A, B) (C, D) r v (V, n) h = grind order

pub merged-ends : (p q : Pair) → Ends p → Ends q → Ends (Ordinary.merged p q)
merged-ends p q (A, B) (C, D) = (least_held p.lo q.lo A C, most_held p.hi q.hi B D)

pub merges : (p q : Pair) → Ends p → Ends q → Merges (between p) (between q) (between (Ordinary.merged p q))
merges p q (A, B) (C, D) = record { mine = λ v (V, n) h. grind (arith, least_le, le-most); yours = λ v (V, n) h. grind (arith, least_le, le-most) }

pub adds : (p : Pair) (x : Float) → Ends p → Held x → Adds (between p) x (between (Ordinary.with_value p x))
adds p x P X = let m = merges p (pair x x) P (X, X) in record { old = m.mine; new = λ (V, n). m.yours x (V, n) (grind order) }

-- a finite distance that is not negative moves neither end inward
pub moves-ends : (p : Pair) (d : Float) → Value p.lo → Value p.hi → Held d → T (float_is_finite d) → is_nan d ≡ false → lt d float_zero ≡ false
    → T (le (Ordinary.moved p d).lo p.lo) × T (le p.hi (Ordinary.moved p d).hi)
moves-ends p d (A, a) (B, b) D f n l =
    let z : T (le float_zero d) = grind (order, zero_held, zero_number) in
    (sub-le p.lo d A D a f z, le-add p.hi d B D b f z)

pub moved_ends : (p : Pair) (d : Float) → Ends (Ordinary.moved p d)
moved_ends p d = (sub_held p.lo d, add-held p.hi d)

pub moves : (p : Pair) (d : Float) → Ends p → Held d → T (float_is_finite d) → is_nan d ≡ false → lt d float_zero ≡ false → Inside (between p) (between (Ordinary.moved p d))
moves p d (A, B) D f n l v (V, w) h =
    let (x, y) = moves-ends p d (A, grind order) (B, grind order) D f n l in
    outward p (Ordinary.moved p d) v (A, B) (moved_ends p d) V x y h
