-- What a reader that comes to an end has read.
use Rattle.std.proofs.Common.{◌≡◌, ℕ, zero, suc, ◌+◌, ◌*◌, ◌/◌, ◌%◌, ◌^◌, ◌<◌, ◌≤◌, Bool, true, false, List, [], ◌∷◌, ◌++◌, reverse, length, drop, sym, refl, ap, ◌∙◌, inl, inr, append_assoc, arith, length-drop}
use Rattle.std.proofs.lemmas.Bool.{cases_lt}
use Rattle.std.proofs.ByRecursion.{All-drop}
use Rattle.std.specs.List.{AllByRecursion, flat_map}
use Rattle.shapes.specs.declared.endian.Endian.{Endian}
use Rattle.shapes.specs.declared.endian.Endian.TheVariants.{Big, Little}
use Rattle.shapes.specs.declared.code.Dimension.{Dimension}
use Rattle.shapes.specs.declared.coord.Coord.{Coord}
use Rattle.interval.specs.declared.fault.Cause.{Cause}
use Rattle.shapes.specs.Codes.{width}
use Rattle.shapes.specs.Numbers.{u32_at, u64_at}
use Rattle.shapes.specs.Wkb.{Reader, whole, eights, coord, points, line, times, counted, stop, ended}
use Rattle.shapes.specs.Tree.{Place, little, bytes, place, ring, coord_of, IsPlace, IsRing}
use Rattle.shapes.proofs.Reading.{whole-there, whole-not}
use Rattle.shapes.proofs.WrittenRead.{Reads, coord-read}

-- ---- numbers

abbrev pub Bytes : List ℕ → Type 0
Bytes b = AllByRecursion (λ n. n < 256) b

value : List ℕ → ℕ
value [] = 0
value (x ∷ l) = x + 256 * value l

digits : (l : List ℕ) → Bytes l → little (length l) (value l) ≡ l
unfolding value
digits [] h = refl
digits (x ∷ l) h =
    let low : (x + 256 * value l) % 256 ≡ x = omega (arith, h.0) in
    let high : (x + 256 * value l) / 256 ≡ value l = omega (arith, h.0) in
    let rest : little (length l) ((x + 256 * value l) / 256) ≡ l = ap (little (length l)) high ∙ digits l h.1 in
    λ i. low i ∷ rest i

-- the number that stands in the first w bytes of b, and the bytes after it
pub record Numbered (o : Endian) (w n : ℕ) (b : List ℕ) : Type 0 where
  pub split : b ≡ bytes o w n ++ drop w b
  pub low : n < 256 ^ w

pub u32_back : (o : Endian) (b : List ℕ) → 4 ≤ length b → Bytes b → Numbered o 4 (u32_at o b) b
unfolding bytes value
u32_back o [] l h = absurd (omega arith)
u32_back o (a ∷ []) l h = absurd (omega arith)
u32_back o (a ∷ b ∷ []) l h = absurd (omega arith)
u32_back o (a ∷ b ∷ c ∷ []) l h = absurd (omega arith)
u32_back Big (a ∷ b ∷ c ∷ d ∷ r) l h =
    let ds : List ℕ = d ∷ c ∷ b ∷ a ∷ [] in
    let e : u32_at Big (a ∷ b ∷ c ∷ d ∷ r) ≡ value ds = omega arith in
    let f : little 4 (u32_at Big (a ∷ b ∷ c ∷ d ∷ r)) ≡ ds = ap (little 4) e ∙ digits ds (omega arith) in
    record { split = ap (λ (x : List ℕ). reverse x ++ r) (sym f); low = omega arith }
u32_back Little (a ∷ b ∷ c ∷ d ∷ r) l h =
    let ds : List ℕ = a ∷ b ∷ c ∷ d ∷ [] in
    let e : u32_at Little (a ∷ b ∷ c ∷ d ∷ r) ≡ value ds = omega arith in
    let f : little 4 (u32_at Little (a ∷ b ∷ c ∷ d ∷ r)) ≡ ds = ap (little 4) e ∙ digits ds (omega arith) in
    record { split = ap (λ (x : List ℕ). x ++ r) (sym f); low = omega arith }

u64_back : (o : Endian) (b : List ℕ) → 8 ≤ length b → Bytes b → Numbered o 8 (u64_at o b) b
unfolding bytes value
u64_back o [] l h = absurd (omega arith)
u64_back o (a ∷ []) l h = absurd (omega arith)
u64_back o (a ∷ b ∷ []) l h = absurd (omega arith)
u64_back o (a ∷ b ∷ c ∷ []) l h = absurd (omega arith)
u64_back o (a ∷ b ∷ c ∷ d ∷ []) l h = absurd (omega arith)
u64_back o (a ∷ b ∷ c ∷ d ∷ e ∷ []) l h = absurd (omega arith)
u64_back o (a ∷ b ∷ c ∷ d ∷ e ∷ f ∷ []) l h = absurd (omega arith)
u64_back o (a ∷ b ∷ c ∷ d ∷ e ∷ f ∷ g ∷ []) l h = absurd (omega arith)
u64_back Big (a ∷ b ∷ c ∷ d ∷ e ∷ f ∷ g ∷ i ∷ r) l h =
    let ds : List ℕ = i ∷ g ∷ f ∷ e ∷ d ∷ c ∷ b ∷ a ∷ [] in
    let q : u64_at Big (a ∷ b ∷ c ∷ d ∷ e ∷ f ∷ g ∷ i ∷ r) ≡ value ds = omega arith in
    let w : little 8 (u64_at Big (a ∷ b ∷ c ∷ d ∷ e ∷ f ∷ g ∷ i ∷ r)) ≡ ds = ap (little 8) q ∙ digits ds (omega arith) in
    record { split = ap (λ (x : List ℕ). reverse x ++ r) (sym w); low = omega arith }
u64_back Little (a ∷ b ∷ c ∷ d ∷ e ∷ f ∷ g ∷ i ∷ r) l h =
    let ds : List ℕ = a ∷ b ∷ c ∷ d ∷ e ∷ f ∷ g ∷ i ∷ [] in
    let q : u64_at Little (a ∷ b ∷ c ∷ d ∷ e ∷ f ∷ g ∷ i ∷ r) ≡ value ds = omega arith in
    let w : little 8 (u64_at Little (a ∷ b ∷ c ∷ d ∷ e ∷ f ∷ g ∷ i ∷ r)) ≡ ds = ap (little 8) q ∙ digits ds (omega arith) in
    record { split = ap (λ (x : List ℕ). x ++ r) (sym w); low = omega arith }

-- ---- what a reader that comes to an end has read

pub record Found {A : Type 0} (P : A → Type 0) (f : A → List ℕ) (k : Reader) (e b : List ℕ) : Type 0 where
  pub thing : A
  pub good : P thing
  pub rest : List ℕ
  pub split : b ≡ f thing ++ rest
  pub small : Bytes rest
  pub goes : (k rest).ending ≡ ended e

abbrev pub Undoes : {A : Type 0} → (Reader → Reader) → (A → Type 0) → (A → List ℕ) → Type 0
Undoes r P f = (k : Reader) (e b : List ℕ) → Bytes b → (r k b).ending ≡ ended e → Found P f k e b

pub no_stop : (x : Cause) (n : ℕ) (e : List ℕ) → stop x n ≡ ended e → ⊥
no_stop x n e h = let z : ◌≡◌ {A = ℕ} 0 1 = cc in omega arith

pub whole_back : (n : ℕ) (k : Reader) (e b : List ℕ) → (whole n k b).ending ≡ ended e → (n ≤ length b) × ((k b).ending ≡ ended e)
whole_back n k e b h =
    elim (cases_lt (length b) n) [
      | inl lt ↦ absurd (no_stop _ _ e (sym (ap (λ r. r.ending) (whole-not n k b lt)) ∙ h))
      | inr ge ↦ (ge, sym (ap (λ r. r.ending) (whole-there n k b ge)) ∙ h)
    ]

goes_on : (r : Reader → Reader) (w : List ℕ) (cs : List Coord) (k : Reader) (e b rest : List ℕ) → Reads r w cs → b ≡ w ++ rest → (r k b).ending ≡ ended e → (k rest).ending ≡ ended e
goes_on r w cs k e b rest p s h = sym (ap (λ u. u.ending) (p k rest)) ∙ ap (λ c. (r k c).ending) (sym s) ∙ h

pub found_map : {A B : Type 0} (P : A → Type 0) (f : A → List ℕ) (Q : B → Type 0) (g : B → List ℕ) (m : A → B) → ((a : A) → P a → Q (m a)) → ((a : A) → f a ≡ g (m a)) → (k : Reader) (e b : List ℕ) → Found P f k e b → Found Q g k e b
found_map P f Q g m p s k e b x = record {
  thing = m x.thing;
  good = p x.thing x.good;
  rest = x.rest;
  split = x.split ∙ ap (λ (w : List ℕ). w ++ x.rest) (s x.thing);
  small = x.small;
  goes = x.goes;
}

module _ {A : Type 0} (r : Reader → Reader) (P : A → Type 0) (f : A → List ℕ) (one : Undoes r P f) where
  pub times-back : (n : ℕ) → Undoes (times r n) (λ l. (length l ≡ n) × AllByRecursion P l) (flat_map f)
  unfolding times
  times-back zero k e b hb h = record { thing = []; good = (refl, tt); rest = b; split = refl; small = hb; goes = h }
  times-back (suc n) k e b hb h =
      let x = one (times r n k) e b hb h in
      let y = times-back n k e x.rest x.small x.goes in
      record {
        thing = x.thing ∷ y.thing;
        good = (ap suc y.good.0, (x.good, y.good.1));
        rest = y.rest;
        split = x.split ∙ ap (λ (w : List ℕ). f x.thing ++ w) y.split ∙ sym (append_assoc (f x.thing) (flat_map f y.thing) y.rest);
        small = y.small;
        goes = y.goes;
      }

module _ {A : Type 0} (o : Endian) (r : ℕ → Reader → Reader) (count : A → ℕ) (Q : A → Type 0) (f : A → List ℕ) (one : (n : ℕ) → Undoes (r n) (λ a. (count a ≡ n) × Q a) f) where
  pub counted_back : Undoes (counted o r) (λ a. (count a < 2 ^ 32) × Q a) (λ a. bytes o 4 (count a) ++ f a)
  unfolding counted
  counted_back k e b hb h =
      let n : ℕ = u32_at o b in
      let w = whole_back 4 (λ c. r (u32_at o c) k (drop 4 c)) e b h in
      let u = u32_back o b w.0 hb in
      let x = one n k e (drop 4 b) (All-drop (λ i. i < 256) 4 b hb) w.1 in
      let low : count x.thing < 2 ^ 32 = omega (arith, x.good.0, u.low) in
      record {
        thing = x.thing;
        good = (low, x.good.1);
        rest = x.rest;
        split = u.split ∙ ap (λ (v : List ℕ). bytes o 4 n ++ v) x.split
            ∙ ap (λ (i : ℕ). bytes o 4 i ++ (f x.thing ++ x.rest)) (sym x.good.0)
            ∙ sym (append_assoc (bytes o 4 (count x.thing)) (f x.thing) x.rest);
        small = x.small;
        goes = x.goes;
      }

-- ---- points, lines

eights-back : (n : ℕ) (k : Reader) (e b : List ℕ) → (eights n k b).ending ≡ ended e → 8 * n ≤ length b
unfolding eights
eights-back zero k e b h = omega arith
eights-back (suc n) k e b h =
    let w = whole_back 8 (λ c. eights n k (drop 8 c)) e b h in
    omega (arith, w.0, eights-back n k e (drop 8 b) w.1, length-drop 8 b)

record Laid (o : Endian) (n : ℕ) (b : List ℕ) : Type 0 where
  place' : Place
  size : length place' ≡ n
  low : AllByRecursion (λ i. i < 2 ^ 64) place'
  rest : List ℕ
  split : b ≡ place o place' ++ rest
  small : Bytes rest

place-back : (o : Endian) (n : ℕ) (b : List ℕ) → 8 * n ≤ length b → Bytes b → Laid o n b
place-back o zero b l h = record { place' = []; size = refl; low = tt; rest = b; split = refl; small = h }
place-back o (suc n) b l h =
    let i : ℕ = u64_at o b in
    let u = u64_back o b (omega arith) h in
    let x = place-back o n (drop 8 b) (omega (arith, length-drop 8 b)) (All-drop (λ j. j < 256) 8 b h) in
    record {
      place' = i ∷ x.place';
      size = ap suc x.size;
      low = (u.low, x.low);
      rest = x.rest;
      split = u.split ∙ ap (λ (w : List ℕ). bytes o 8 i ++ w) x.split ∙ sym (append_assoc (bytes o 8 i) (place o x.place') x.rest);
      small = x.small;
    }

module _ (o : Endian) (d : Dimension) where
  pub coord-back : (j : Bool) → Undoes (coord o d j) (IsPlace d) (place o)
  unfolding coord
  coord-back j k e b hb h =
      let x = place-back o (width d) b (eights-back (width d) _ e b h) hb in
      let good : IsPlace d x.place' = (x.size, x.low) in
      record {
        thing = x.place';
        good = good;
        rest = x.rest;
        split = x.split;
        small = x.small;
        goes = goes_on (coord o d j) (place o x.place') (coord_of d j x.place' ∷ []) k e b x.rest (coord-read o d j x.place' good) x.split h;
      }

  points-back : (n : ℕ) (j : Bool) → Undoes (points o d j n) (λ ps. (length ps ≡ n) × AllByRecursion (IsPlace d) ps) (flat_map (place o))
  unfolding points
  points-back zero j k e b hb h = record { thing = []; good = (refl, tt); rest = b; split = refl; small = hb; goes = h }
  points-back (suc n) j k e b hb h =
      let x = coord-back j (points o d true n k) e b hb h in
      let y = points-back n true k e x.rest x.small x.goes in
      record {
        thing = x.thing ∷ y.thing;
        good = (ap suc y.good.0, (x.good, y.good.1));
        rest = y.rest;
        split = x.split ∙ ap (λ (w : List ℕ). place o x.thing ++ w) y.split ∙ sym (append_assoc (place o x.thing) (flat_map (place o) y.thing) y.rest);
        small = y.small;
        goes = y.goes;
      }

  pub line-back : Undoes (line o d) (IsRing d) (ring o)
  line-back = counted_back o (points o d false) length (AllByRecursion (IsPlace d)) (flat_map (place o)) (λ n. points-back n false)

  pub rings_back : Undoes (counted o (times (line o d))) (λ rs. (length rs < 2 ^ 32) × AllByRecursion (IsRing d) rs) (λ rs. bytes o 4 (length rs) ++ flat_map (ring o) rs)
  rings_back = counted_back o (times (line o d)) length (AllByRecursion (IsRing d)) (flat_map (ring o)) (times-back (line o d) (IsRing d) (ring o) line-back)
