-- What is read was written.
use Rattle.std.proofs.Common.{◌≡◌, ℕ, zero, suc, ◌+◌, ◌^◌, ◌<◌, ◌≤◌, Bool, true, false, eqb, List, [], ◌∷◌, ◌++◌, length, get_or, drop, Some, None, Option, sym, refl, ap, ◌∙◌, subst, append_assoc, append-nil, arith, drop-cons, drop-drop, Fits, w8}
use Rattle.std.proofs.lemmas.Bool.{and_parts, eqb-true}
use Rattle.std.proofs.lemmas.Bool.Decides.{nat_tests}
use Rattle.std.proofs.ByRecursion.{All-drop, All-from_get_or}
use Rattle.std.specs.List.{AllByRecursion, flat_map}
use Rattle.shapes.specs.declared.endian.Endian.{Endian}
use Rattle.shapes.specs.declared.code.Dimension.{Dimension}
use Rattle.shapes.specs.declared.code.Code.{Code}
use Rattle.shapes.specs.declared.coord.Coord.{Coord}
use Rattle.interval.specs.declared.fault.Fault.{Fault}
use Rattle.shapes.specs.declared.code.Kind.{Kind}
use Rattle.shapes.specs.declared.code.Kind.TheVariants.{Point, Line, Polygon, MultiPoint, MultiLine, MultiPolygon, Collection}
use Rattle.interval.specs.declared.fault.Cause.TheVariants.{PartType}
use Rattle.shapes.specs.Codes.{code_number, code_of, fits, takes, kind_number, dim_number}
use Rattle.shapes.specs.Numbers.{u32_at, order_of}
use Rattle.shapes.specs.Wkb.{Reader, Ending, if, whole, fault, points, times, counted, stop, ended, header, with_order, with_code, body, shape, decode, decoded, levels, refused, read, finish}
use Rattle.shapes.specs.Tree.{Parts, points as ofPoints, lines as ofLines, polygons as ofPolygons, anything, Tree, point, line as aLine, polygon, group, none, more, kind_of_group, kind, code, many, depth, deepest, bytes, order_byte, head, place, ring, written, written_all, coords, IsPlace, IsRing, MayHold, Good, GoodAll, WellFormed, WritingOf, NoWriting, ReadExactly}
use Rattle.shapes.proofs.Coding.{code-back, same-dim, same_kind}
use Rattle.shapes.proofs.ReadBack.{Bytes, u32_back, Undoes, no_stop, whole_back, found_map, counted_back, coord-back, line-back, rings_back}
use Rattle.shapes.proofs.WrittenRead.{written-is_read}

-- ---- headers

order_back : (n : ℕ) (o : Endian) → order_of n ≡ Some o → n ≡ order_byte o
order_back n o h = grind (arith, nat_tests)

with_order-back : (v : Option Endian) (f : Endian → Reader) (e b : List ℕ) → (with_order v f b).ending ≡ ended e → (o : Endian) × (v ≡ Some o) × ((f o b).ending ≡ ended e)
with_order-back (Some o) f e b h = (o, refl, h)
with_order-back None f e b h = absurd (no_stop _ _ e h)

with_code-back : (v : Option Code) (f : Code → Reader) (e b : List ℕ) → (with_code v f b).ending ≡ ended e → (c : Code) × (v ≡ Some c) × ((f c b).ending ≡ ended e)
with_code-back (Some c) f e b h = (c, refl, h)
with_code-back None f e b h = absurd (no_stop _ _ e h)

fit_back : (v : Bool) (p : Reader) (e b : List ℕ) → (if v p (fault PartType) b).ending ≡ ended e → (v ≡ true) × ((p b).ending ≡ ended e)
fit_back true p e b h = (refl, h)
fit_back false p e b h = absurd (no_stop _ _ e h)

record Headed (outer : Option Code) (f : Endian → Code → Reader) (e b : List ℕ) : Type 0 where
  order : Endian
  code' : Code
  rest : List ℕ
  fit : fits outer code' ≡ true
  split : b ≡ head code'.dim order code'.kind ++ rest
  small : Bytes rest
  goes : (f order code' rest).ending ≡ ended e

header-back : (outer : Option Code) (f : Endian → Code → Reader) (e b : List ℕ) → Bytes b → (header outer f b).ending ≡ ended e → Headed outer f e b
unfolding header head
header-back outer f e b hb h =
    let x : List ℕ = drop 1 b in
    let last : Endian → Code → Reader = λ o c. if (fits outer c) (λ _. f o c (drop 5 b)) (fault PartType) in
    let middle : Endian → Reader = λ o _. whole 4 (λ _. with_code (code_of (u32_at o x)) (last o) x) x in
    let w = whole_back 1 (λ _. with_order (order_of (get_or b 0 0)) middle b) e b h in
    let p = with_order-back (order_of (get_or b 0 0)) middle e b w.1 in
    let o : Endian = p.0 in
    let w4 = whole_back 4 (λ _. with_code (code_of (u32_at o x)) (last o) x) e x p.2 in
    let q = with_code-back (code_of (u32_at o x)) (last o) e x w4.1 in
    let c : Code = q.0 in
    let s = fit_back (fits outer c) (λ _. f o c (drop 5 b)) e x q.2 in
    let u = u32_back o x w4.0 (All-drop (λ i. i < 256) 1 b hb) in
    let first : get_or b 0 0 ≡ order_byte o = order_back (get_or b 0 0) o p.1 in
    let number : u32_at o x ≡ code_number c = code-back (u32_at o x) c q.1 in
    let tail : x ≡ bytes o 4 (code_number c) ++ drop 5 b =
    u.split ∙ (λ i. bytes o 4 (number i) ++ drop-drop 4 1 b i) in
    record {
      order = o;
      code' = c;
      rest = drop 5 b;
      fit = s.0;
      split = drop-cons b 0 0 w.0 ∙ (λ i. first i ∷ tail i);
      small = All-drop (λ i. i < 256) 5 b hb;
      goes = s.1;
    }

-- ---- fitting

takes_back : (g : Parts) (k : Kind) → takes (kind_of_group g) k ≡ true → MayHold g k
takes_back ofPoints k h = same_kind k Point (omega (arith, eqb-true 4 (kind_number k + 3) h))
takes_back ofLines k h = same_kind k Line (omega (arith, eqb-true 5 (kind_number k + 3) h))
takes_back ofPolygons k h = same_kind k Polygon (omega (arith, eqb-true 6 (kind_number k + 3) h))
takes_back anything k h = tt

-- ---- trees

order : Tree → Endian
order (point o p) = o
order (aLine o ps) = o
order (polygon o rs) = o
order (group o g ts) = o

-- what follows the header
content : Dimension → Tree → List ℕ
content d (point o p) = place o p
content d (aLine o ps) = ring o ps
content d (polygon o rs) = bytes o 4 (length rs) ++ flat_map (ring o) rs
content d (group o g ts) = bytes o 4 (many ts) ++ written_all d ts

written-parts : (d : Dimension) (tr : Tree) → written d tr ≡ head d (order tr) (kind tr) ++ content d tr
unfolding written order content
written-parts d (point o p) = refl
written-parts d (aLine o ps) = refl
written-parts d (polygon o rs) = refl
written-parts d (group o g ts) = refl

abbrev Part : ℕ → Dimension → Parts → Tree → Type 0
Part l d g tr = MayHold g (kind tr) × Good d tr × (depth tr ≤ l)

abbrev InBody : ℕ → Endian → Dimension → Kind → Tree → Type 0
InBody l o d k tr = (order tr ≡ o) × (kind tr ≡ k) × Good d tr × (depth tr ≤ suc l)

module _ (l : ℕ) (o : Endian) (d : Dimension) (g : Parts) (part : Reader → Reader) (one : Undoes part (Part l d g) (written d)) where
  trees_back : (n : ℕ) → Undoes (times part n) (λ ts. (many ts ≡ n) × (GoodAll d g ts × (deepest ts ≤ l))) (written_all d)
  unfolding times Good depth written
  trees_back zero k e b hb h = record { thing = none; good = (refl, (tt, omega arith)); rest = b; split = refl; small = hb; goes = h }
  trees_back (suc n) k e b hb h =
      let x = one (times part n k) e b hb h in
      let y = trees_back n k e x.rest x.small x.goes in
      let deep : deepest (more x.thing y.thing) ≤ l = omega (arith, x.good.2, y.good.1.1) in
      record {
        thing = more x.thing y.thing;
        good = (ap suc y.good.0, ((x.good.0, x.good.1, y.good.1.0), deep));
        rest = y.rest;
        split = x.split ∙ ap (λ (w : List ℕ). written d x.thing ++ w) y.split ∙ sym (append_assoc (written d x.thing) (written_all d y.thing) y.rest);
        small = y.small;
        goes = y.goes;
      }

  group-back : Undoes (counted o (times part)) (InBody l o d (kind_of_group g)) (content d)
  unfolding Good depth order content
  group-back k e b hb h =
      found_map (λ ts. (many ts < 2 ^ 32) × (GoodAll d g ts × (deepest ts ≤ l))) (λ ts. bytes o 4 (many ts) ++ written_all d ts)
      (InBody l o d (kind_of_group g)) (content d) (group o g)
      (λ ts p. (refl, refl, (p.0, p.1.0), omega (arith, p.1.1))) (λ ts. refl) k e b
      (counted_back o (times part) many (λ ts. GoodAll d g ts × (deepest ts ≤ l)) (written_all d) trees_back k e b hb h)

abbrev Shaped : ℕ → Option Code → Dimension × Tree → Type 0
Shaped l outer x = Good x.0 x.1 × (depth x.1 ≤ l) × (fits outer (code x.0 x.1) ≡ true)

abbrev writing : Dimension × Tree → List ℕ
writing x = written x.0 x.1

-- the parts of a container have its dimension
part_back : (l : ℕ) (d : Dimension) (g : Parts) → Undoes (shape l (Some (record { kind = kind_of_group g; dim = d }))) (Shaped l (Some (record { kind = kind_of_group g; dim = d }))) writing → Undoes (shape l (Some (record { kind = kind_of_group g; dim = d }))) (Part l d g) (written d)
part_back l d g one k e b hb h =
    let x = one k e b hb h in
    let d' : Dimension = x.thing.0 in
    let tr : Tree = x.thing.1 in
    let f = and_parts (takes (kind_of_group g) (kind tr)) (eqb (dim_number d) (dim_number d')) x.good.2 in
    let q : d' ≡ d = same-dim d d' f.1 in
    record {
      thing = tr;
      good = (takes_back g (kind tr) f.0, subst (λ (z : Dimension). Good z tr) q x.good.0, x.good.1);
      rest = x.rest;
      split = x.split ∙ ap (λ (z : Dimension). written z tr ++ x.rest) q;
      small = x.small;
      goes = x.goes;
    }

module _ (l : ℕ) (o : Endian) (d : Dimension) (part : Kind → Reader → Reader) (one : (g : Parts) → Undoes (part (kind_of_group g)) (Part l d g) (written d)) where
  body_back : (k : Kind) → Undoes (body o d (part k) k) (InBody l o d k) (content d)
  unfolding body Good depth order content points
  body_back Point k e b hb h =
      found_map (IsPlace d) (place o) (InBody l o d Point) (content d) (point o) (λ p g. (refl, refl, g, omega arith)) (λ p. refl) k e b
      (coord-back o d false (points o d true 0 k) e b hb h)
  body_back Line k e b hb h =
      found_map (IsRing d) (ring o) (InBody l o d Line) (content d) (aLine o) (λ ps g. (refl, refl, g, omega arith)) (λ ps. refl) k e b
      (line-back o d k e b hb h)
  body_back Polygon k e b hb h =
      found_map (λ rs. (length rs < 2 ^ 32) × AllByRecursion (IsRing d) rs) (λ rs. bytes o 4 (length rs) ++ flat_map (ring o) rs) (InBody l o d Polygon) (content d) (polygon o) (λ rs g. (refl, refl, g, omega arith)) (λ rs. refl) k e b
      (rings_back o d k e b hb h)
  body_back MultiPoint k e b hb h = group-back l o d ofPoints (part MultiPoint) (one ofPoints) k e b hb h
  body_back MultiLine k e b hb h = group-back l o d ofLines (part MultiLine) (one ofLines) k e b hb h
  body_back MultiPolygon k e b hb h = group-back l o d ofPolygons (part MultiPolygon) (one ofPolygons) k e b hb h
  body_back Collection k e b hb h = group-back l o d anything (part Collection) (one anything) k e b hb h

pub shape-back : (l : ℕ) (outer : Option Code) → Undoes (shape l outer) (Shaped l outer) writing
unfolding shape
shape-back zero outer k e b hb h = absurd (no_stop _ _ e h)
shape-back (suc l) outer k e b hb h =
    let f : Endian → Code → Reader = λ o c. body o c.dim (shape l (Some c)) c.kind k in
    let y = header-back outer f e b hb h in
    let o : Endian = y.order in
    let d : Dimension = y.code'.dim in
    let x = body_back l o d (λ n. shape l (Some (record { kind = n; dim = d })))
    (λ g. part_back l d g (shape-back l (Some (record { kind = kind_of_group g; dim = d })))) y.code'.kind k e y.rest y.small y.goes in
    let tr : Tree = x.thing in
    record {
      thing = (d, tr);
      good = (x.good.2, x.good.3, ap (λ (n : Kind). fits outer (record { kind = n; dim = d })) x.good.1 ∙ y.fit);
      rest = x.rest;
      split = y.split ∙ ap (λ (w : List ℕ). head d o y.code'.kind ++ w) x.split
          ∙ sym (append_assoc (head d o y.code'.kind) (content d tr) x.rest)
          ∙ sym (ap (λ (w : List ℕ). w ++ x.rest) (written-parts d tr ∙ (λ i. head d (x.good.0 i) (x.good.1 i) ++ content d tr)));
      small = x.small;
      goes = x.goes;
    }

-- ---- the law

decoded-back : (t : ℕ) (v : Ending) (c c' : Code) (cs cs' : List Coord) → decoded t v c cs ≡ read c' cs' → v ≡ ended []
decoded-back t (stop f n) c c' cs cs' h = cc
decoded-back t (ended []) c c' cs cs' h = refl
decoded-back t (ended (x ∷ b)) c c' cs cs' h = cc

read-was_written : (b : List ℕ) (c : Code) (cs : List Coord) → Bytes b → decode b ≡ read c cs → WritingOf b c cs
read-was_written b c cs hb h =
    let x = shape-back levels None finish [] b hb (decoded-back (length b) _ _ c _ cs h) in
    let d : Dimension = x.thing.0 in
    let tr : Tree = x.thing.1 in
    let over : x.rest ≡ [] = cc x.goes in
    let same : written d tr ≡ b = sym (x.split ∙ ap (λ (w : List ℕ). written d tr ++ w) over ∙ append-nil (written d tr)) in
    let well : WellFormed d tr = record { good = x.good.0; shallow = x.good.1 } in
    let both : read (code d tr) (coords d tr) ≡ read c cs = sym (written-is_read d tr well) ∙ ap decode same ∙ h in
    record { dim = d; tree = tr; well_formed = well; writes = same; has_code = cc both; has_coords = cc both }

pub read-exactly : (b : List ℕ) → ((i : ℕ) → Fits w8 (get_or b i 0)) → ReadExactly b
read-exactly b h8 = record {
  read_was_written = λ c cs h. read-was_written b c cs (All-from_get_or (λ n. n < 256) b 0 (λ i _. omega (arith, h8 i))) h;
  written_is_read = λ c cs w.
      sym (ap decode w.writes) ∙ written-is_read w.dim w.tree w.well_formed
      ∙ ap (λ (x : Code). read x (coords w.dim w.tree)) w.has_code ∙ ap (read c) w.has_coords;
}

pub refused-no_writing : (b : List ℕ) (f : Fault) → ReadExactly b → decode b ≡ refused f → NoWriting b
refused-no_writing b f x h c cs w =
    let e : read c cs ≡ refused f = sym (x.written_is_read c cs w) ∙ h in
    let z : ◌≡◌ {A = ℕ} 0 1 = cc in omega arith

pub ruleset reads = (read-exactly)
