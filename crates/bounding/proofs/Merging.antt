-- Pairs merged: exact laws, for pairs of any floats.
use Rattle.std.proofs.Common.{◌≡◌, T, ap₂, arith}
use lib.Ieee.{Float, le, is_nan}
use lib.Ieee.Fits.{and_i}
use Rattle.std.specs.Float.{NotNan}
use Rattle.std.proofs.lemmas.Bool.{cond_both}
use Rattle.std.proofs.lemmas.Float.{le_trans, le_refl, le_of_eq, le_left, le_right, eq_flip}
use Rattle.number.proofs.Plain.{le_total, eq-is_les, least_assoc, most_assoc, least_nan_left, most_nan_left, lowest-le, le-highest, least_highest, most_lowest, highest-least, lowest-most}
use Rattle.interval.specs.Pairs.{Pair, pair, nothing}
use Rattle.interval.specs.Ordinary.{merged}
use Rattle.bounding.specs.Laws.{Alike}

-- both ends are numbers
pub record Plain (e : Pair) : Type 0 where
  pub low : NotNan e.lo
  pub high : NotNan e.hi

pub merged-assoc : (a b c : Pair) → merged (merged a b) c ≡ merged a (merged b c)
merged-assoc a b c = ap₂ pair (least_assoc a.lo b.lo c.lo) (most_assoc a.hi b.hi c.hi)

pub nothing-plain : Plain nothing
nothing-plain = record { low = unfold is_nan in tt; high = unfold is_nan in tt }

pub nothing-merged : (e : Pair) → Plain e → merged nothing e ≡ e
nothing-merged e p = ap₂ pair (highest-least e.lo p.low) (lowest-most e.hi p.high)

pub merged-nothing : (e : Pair) → Plain e → merged e nothing ≡ e
merged-nothing e p = ap₂ pair (least_highest e.lo p.low) (most_lowest e.hi p.high)

-- a NaN is ignored
pub nan-merged : (v : Float) (e : Pair) → T (is_nan v) → Plain e → merged (pair v v) e ≡ e
nan-merged v e h p = ap₂ pair (least_nan_left v e.lo h p.low) (most_nan_left v e.hi h p.high)

-- ---- ends that are numbers
pub merged-plain_right : (a b : Pair) → Plain b → Plain (merged a b)
merged-plain_right a b p =
    let l = p.low in
    let h = p.high in
    let x = le_left a.lo b.lo in
    let y = le_right b.hi a.hi in
    record { low = grind arith; high = grind arith }

pub merged-plain_left : (a b : Pair) → Plain a → Plain (merged a b)
merged-plain_left a b p = let l = p.low in let h = p.high in record { low = grind arith; high = grind arith }

-- ---- one pair within another
pub record Into (a b : Pair) : Type 0 where
  pub low : T (le b.lo a.lo)
  pub high : T (le a.hi b.hi)

pub into_left : (a b : Pair) → Plain a → Into a (merged a b)
into_left a b p =
    let l = p.low in
    let h = p.high in
    let x = le_refl a.lo l in
    let y = le_refl a.hi h in
    let z = le_total a.lo b.lo in
    let w = le_total b.hi a.hi in
    record { low = grind arith; high = grind arith }

pub into_right : (a b : Pair) → Plain b → Into b (merged a b)
into_right a b p =
    let l = p.low in
    let h = p.high in
    let x = le_refl b.lo l in
    let y = le_refl b.hi h in
    record { low = grind arith; high = grind arith }

pub into_merged : (a b c : Pair) → Into a c → Into b c → Into (merged a b) c
into_merged a b c p q =
    record {
      low = cond_both _ _ _ (λ v. T (le c.lo v)) (λ _. p.low) (λ _. q.low);
      high = cond_both _ _ _ (λ v. T (le v c.hi)) (λ _. p.high) (λ _. q.high);
    }

pub into_trans : (a b c : Pair) → Into a b → Into b c → Into a c
into_trans a b c p q = record { low = le_trans c.lo b.lo a.lo q.low p.low; high = le_trans a.hi b.hi c.hi p.high q.high }

pub nothing-into : (e : Pair) → Plain e → Into nothing e
nothing-into e p = record { low = rw (le-highest e.lo) p.low; high = rw (lowest-le e.hi) p.high }

-- each within the other: equal as numbers
pub into_of : (a b : Pair) → Alike a b → Into a b × Into b a
into_of a b h = (
  record { low = le_of_eq b.lo a.lo (eq_flip a.lo b.lo h.low); high = le_of_eq a.hi b.hi h.high },
  record { low = le_of_eq a.lo b.lo h.low; high = le_of_eq b.hi a.hi (eq_flip a.hi b.hi h.high) },
)

pub alike_of : (a b : Pair) → Into a b → Into b a → Alike a b
alike_of a b p q =
    record { low = rw (eq-is_les a.lo b.lo) (and_i _ _ q.low p.low); high = rw (eq-is_les a.hi b.hi) (and_i _ _ p.high q.high) }
