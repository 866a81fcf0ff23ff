-- After a line, a ring or a part comes a coordinate that joins nothing.
use Rattle.std.proofs.Common.{◌≡◌, ℕ, zero, suc, ◌-◌, ◌*◌, Bool, true, false, leb, List, length, get_or, drop, Some, None, Option, sym, refl, subst, inl, inr}
use Rattle.std.proofs.lemmas.Bool.{cases_lt}
use Rattle.shapes.specs.declared.endian.Endian.{Endian}
use Rattle.shapes.specs.declared.code.Dimension.{Dimension}
use Rattle.shapes.specs.declared.code.Dimension.TheVariants.{Xy, Xyz, Xym, Xyzm}
use Rattle.shapes.specs.declared.code.Kind.{Kind}
use Rattle.shapes.specs.declared.code.Kind.TheVariants.{Point, Line, Polygon, MultiPoint, MultiLine, MultiPolygon, Collection}
use Rattle.shapes.specs.declared.code.Code.{Code}
use Rattle.shapes.specs.Codes.{code_of, width, fits}
use Rattle.shapes.specs.Numbers.{order_of, u32_at, coord_at}
use Rattle.shapes.specs.Pending.{parts}
use Rattle.shapes.specs.Steps.{Fresh}
use Rattle.shapes.specs.Wkb.{Reader, Run, if, give, coord, points, times, counted, line, body, with_order, with_code, header, shape}
use Rattle.shapes.proofs.Coding.{coded}
use Rattle.shapes.proofs.Reading.{eights-fit, eights-cut}

abbrev Starts : Reader → Type 0
Starts k = (b : List ℕ) → Fresh (k b).coords

abbrev Begins : (Reader → Reader) → Type 0
Begins r = (k : Reader) → Starts k → Starts (r k)

if-fresh : (x : Bool) (p q : Reader) (b : List ℕ) → Fresh (p b).coords → Fresh (q b).coords → Fresh (if x p q b).coords
if-fresh true p q b h h' = h
if-fresh false p q b h h' = h'

order_fresh : (x : Option Endian) (f : Endian → Reader) (b : List ℕ) → ((o : Endian) → Fresh (f o b).coords) → Fresh (with_order x f b).coords
order_fresh (Some o) f b h = h o
order_fresh None f b h = tt

code-fresh : (x : Option Code) (f : Code → Reader) (b : List ℕ) → ((c : Code) → Fresh (f c b).coords) → Fresh (with_code x f b).coords
code-fresh (Some c) f b h = h c
code-fresh None f b h = tt

pub joins_is : (o : Endian) (d : Dimension) (j : Bool) (b : List ℕ) → (coord_at o d j b).joins ≡ j
joins_is o Xy j b = refl
joins_is o Xyz j b = refl
joins_is o Xym j b = refl
joins_is o Xyzm j b = refl

points-begin : (o : Endian) (d : Dimension) (n : ℕ) → Begins (points o d false n)
unfolding points coord
points-begin o d zero k h b = h b
points-begin o d (suc n) k h b =
    let next : Reader = λ _. give (coord_at o d false b) (points o d true n k (drop (8 * width d) b)) in
    let P : Run → Type 0 = λ r. Fresh r.coords in
    elim (cases_lt (length b) (8 * width d)) [
      | inl lt ↦ subst P (sym (eights-cut (width d) next b lt)) tt
      | inr ge ↦ subst P (sym (eights-fit (width d) next b ge)) (joins_is o d false b)
    ]

times-begin : (r : Reader → Reader) → Begins r → (n : ℕ) → Begins (times r n)
unfolding times
times-begin r f zero k h b = h b
times-begin r f (suc n) k h b = f (times r n k) (times-begin r f n k h) b

counted-begin : (o : Endian) (r : ℕ → Reader → Reader) → ((n : ℕ) → Begins (r n)) → Begins (counted o r)
unfolding counted
counted-begin o r f k h b = if-fresh (leb 4 (length b)) _ _ b (f (u32_at o b) k h (drop 4 b)) tt

line-begin : (o : Endian) (d : Dimension) → Begins (line o d)
line-begin o d = counted-begin o (points o d false) (points-begin o d)

body-begin : (o : Endian) (d : Dimension) (part : Reader → Reader) (q : Kind) → Begins part → Begins (body o d part q)
unfolding body
body-begin o d part Point f = points-begin o d 1
body-begin o d part Line f = line-begin o d
body-begin o d part Polygon f = counted-begin o (times (line o d)) (times-begin (line o d) (line-begin o d))
body-begin o d part MultiPoint f = counted-begin o (times part) (times-begin part f)
body-begin o d part MultiLine f = counted-begin o (times part) (times-begin part f)
body-begin o d part MultiPolygon f = counted-begin o (times part) (times-begin part f)
body-begin o d part Collection f = counted-begin o (times part) (times-begin part f)

header-start : (outer : Option Code) (f : Endian → Code → Reader) → ((o : Endian) (c : Code) → Starts (f o c)) → Starts (header outer f)
unfolding header
header-start outer f h b =
    if-fresh (leb 1 (length b)) _ _ b
    (order_fresh (order_of (get_or b 0 0)) _ b (λ o. if-fresh (leb 4 (length (drop 1 b))) _ _ (drop 1 b)
    (code-fresh (code_of (u32_at o (drop 1 b))) _ (drop 1 b) (λ c. if-fresh (fits outer c) _ _ (drop 1 b) (h o c (drop 5 b)) tt))
    tt))
    tt

shape-begin : (l : ℕ) (outer : Option Code) → Begins (shape l outer)
unfolding shape
shape-begin zero outer k h b = tt
shape-begin (suc l) outer k h b = header-start outer (λ o c. body o c.dim (shape l (Some c)) c.kind k) (λ o c. body-begin o c.dim (shape l (Some c)) c.kind (shape-begin l (Some c)) k h) b

parts-start : (d : Dimension) (q : Kind) (counts : List ℕ) (depth : ℕ) → Starts (parts d q counts depth)
unfolding parts
parts-start d q counts zero b = tt
parts-start d q counts (suc depth) b = times-begin (shape (31 - depth) (Some (coded q d))) (shape-begin (31 - depth) (Some (coded q d))) (get_or counts depth 0) (parts d Collection counts depth) (parts-start d Collection counts depth) b

-- the rings and the parts to come
pub rings_start : (o : Endian) (d : Dimension) (n : ℕ) (q : Kind) (counts : List ℕ) (depth : ℕ) → Starts (times (line o d) n (parts d q counts depth))
rings_start o d n q counts depth = times-begin (line o d) (line-begin o d) n (parts d q counts depth) (parts-start d q counts depth)
