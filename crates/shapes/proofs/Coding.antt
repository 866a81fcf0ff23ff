-- Facts about kinds, dimensions and codes.
use Rattle.std.proofs.Common.{◌≡◌, ℕ, ◌+◌, ◌/◌, ◌%◌, ◌^◌, ◌<◌, ◌≤◌, true, eqb, Some, None, Option, refl, ap, ◌∙◌, inl, inr, arith}
use Rattle.std.proofs.lemmas.Bool.{and_parts, or_cases, eqb-true}
use Rattle.std.proofs.lemmas.Bool.Decides.{nat_tests}
use Rattle.shapes.specs.declared.code.Code.{Code}
use Rattle.shapes.specs.declared.code.Dimension.{Dimension}
use Rattle.shapes.specs.declared.code.Kind.{Kind}
use Rattle.shapes.specs.declared.code.Kind.TheVariants.{Point, Line, Polygon, MultiPoint, MultiLine, MultiPolygon, Collection}
use Rattle.shapes.specs.Codes.{kind_number, dim_number, code_number, kind_of, dim_of, code_from, code_of, takes, fits}

abbrev pub coded : Kind → Dimension → Code
coded q d = record { kind = q; dim = d }

-- ---- from a code to its number and back

kind_of-number : (k : Kind) → kind_of (kind_number k) ≡ Some k
kind_of-number k = grind arith

dim_of-number : (d : Dimension) → dim_of (dim_number d) ≡ Some d
dim_of-number d = grind arith

kind-small : (k : Kind) → kind_number k ≤ 7
kind-small k = grind arith

dim-small : (d : Dimension) → dim_number d ≤ 3
dim-small d = grind arith

pub number_small : (k : Kind) (d : Dimension) → code_number (coded k d) < 2 ^ 32
number_small k d = omega (arith, kind-small k, dim-small d)

pub code_of-number : (k : Kind) (d : Dimension) → code_of (code_number (coded k d)) ≡ Some (coded k d)
code_of-number k d =
    let low : code_number (coded k d) % 1000 ≡ kind_number k = omega (arith, kind-small k) in
    let high : code_number (coded k d) / 1000 ≡ dim_number d = omega (arith, kind-small k) in
    let kd = ap kind_of low ∙ kind_of-number k in
    let dd = ap dim_of high ∙ dim_of-number d in
    λ i. code_from (kd i) (dd i)

kind-back : (n : ℕ) (k : Kind) → kind_of n ≡ Some k → n ≡ kind_number k
kind-back n k h = grind (arith, nat_tests)

dim-back : (n : ℕ) (d : Dimension) → dim_of n ≡ Some d → n ≡ dim_number d
dim-back n d h = grind (arith, nat_tests)

code_from-back : (k : Option Kind) (d : Option Dimension) (c : Code) → code_from k d ≡ Some c → (k ≡ Some c.kind) × (d ≡ Some c.dim)
code_from-back (Some k) (Some d) c h = let e : record { kind = k; dim = d } ≡ c = cc in (ap (λ (x : Code). Some x.kind) e, ap (λ (x : Code). Some x.dim) e)
code_from-back (Some k) None c h = let z : ◌≡◌ {A = ℕ} 0 1 = cc in absurd (omega arith)
code_from-back None d c h = let z : ◌≡◌ {A = ℕ} 0 1 = cc in absurd (omega arith)

pub code-back : (n : ℕ) (c : Code) → code_of n ≡ Some c → n ≡ code_number c
code-back n c h =
    let p = code_from-back (kind_of (n % 1000)) (dim_of (n / 1000)) c h in
    omega (arith, kind-back (n % 1000) c.kind p.0, dim-back (n / 1000) c.dim p.1)

pub same-dim : (a b : Dimension) → eqb (dim_number a) (dim_number b) ≡ true → b ≡ a
same-dim a b h =
    let e : dim_of (dim_number a) ≡ dim_of (dim_number b) = ap dim_of (eqb-true (dim_number a) (dim_number b) h) in
    cc (e, dim_of-number a, dim_of-number b)

pub same_kind : (k k' : Kind) → kind_number k ≡ kind_number k' → k ≡ k'
same_kind k k' h = let e : kind_of (kind_number k) ≡ kind_of (kind_number k') = ap kind_of h in cc (e, kind_of-number k, kind_of-number k')

-- ---- only a collection holds containers

container_number : (q : Kind) → (q ≡ Point → ⊥) → (q ≡ Line → ⊥) → (q ≡ Polygon → ⊥) → 4 ≤ kind_number q
container_number Point a b c = absurd (a refl)
container_number Line a b c = absurd (b refl)
container_number Polygon a b c = absurd (c refl)
container_number MultiPoint a b c = omega arith
container_number MultiLine a b c = omega arith
container_number MultiPolygon a b c = omega arith
container_number Collection a b c = omega arith

pub only-collection : (inner q : Kind) → takes inner q ≡ true → (q ≡ Point → ⊥) → (q ≡ Line → ⊥) → (q ≡ Polygon → ⊥) → inner ≡ Collection
only-collection inner q e a b d =
    let h4 = container_number q a b d in
    let h7 : 7 ≤ kind_number inner =
    elim (or_cases (eqb (kind_number inner) 7) (eqb (kind_number inner) (kind_number q + 3)) e) [
      | inl p ↦ omega (arith, eqb-true (kind_number inner) 7 p)
      | inr p ↦ omega (arith, eqb-true (kind_number inner) (kind_number q + 3) p)
    ] in
    same_kind inner Collection (omega (arith, h7, kind-small inner))

-- ---- a part has its container's dimension

pub fits-takes : (inner : Kind) (d : Dimension) (c : Code) → fits (Some (coded inner d)) c ≡ true → takes inner c.kind ≡ true
fits-takes inner d c e = (and_parts (takes inner c.kind) (eqb (dim_number d) (dim_number c.dim)) e).0

pub fits-dim : (inner : Kind) (d : Dimension) (c : Code) → fits (Some (coded inner d)) c ≡ true → c.dim ≡ d
fits-dim inner d c e = same-dim d c.dim (and_parts (takes inner c.kind) (eqb (dim_number d) (dim_number c.dim)) e).1
