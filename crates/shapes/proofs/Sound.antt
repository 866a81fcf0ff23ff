-- What readers give: sixteen bytes or more for each coordinate, and only proper coordinates of the shape's dimension.
use Rattle.std.proofs.Common.{◌≡◌, ℕ, zero, suc, ◌-◌, ◌*◌, ◌≤◌, Bool, true, false, T, leb, List, [], ◌∷◌, length, get_or, drop, Some, None, Option, sym, refl, subst, inl, inr, arith, length-drop}
use lib.Ieee.{binary64, fits as holds}
use lib.Ieee.Bits.{of_bits-fits}
use lib.Ieee.Fits.{nan-fits}
use Rattle.std.proofs.lemmas.Bool.{cases_lt}
use Rattle.std.specs.List.{AllByRecursion}
use Rattle.interval.specs.declared.fault.Cause.{Cause}
use Rattle.interval.specs.declared.fault.Cause.TheVariants.{Truncated, PartType, TooDeep}
use Rattle.shapes.specs.declared.endian.Endian.{Endian}
use Rattle.shapes.specs.declared.code.Dimension.{Dimension}
use Rattle.shapes.specs.declared.code.Dimension.TheVariants.{Xy, Xyz, Xym, Xyzm}
use Rattle.shapes.specs.declared.code.Kind.{Kind}
use Rattle.shapes.specs.declared.code.Kind.TheVariants.{Point, Line, Polygon, MultiPoint, MultiLine, MultiPolygon, Collection}
use Rattle.shapes.specs.declared.code.Code.{Code}
use Rattle.shapes.specs.declared.coord.Coord.{Coord}
use Rattle.shapes.specs.declared.state.Cursor.{Cursor}
use Rattle.shapes.specs.Codes.{code_of, width, fits}
use Rattle.shapes.specs.Numbers.{order_of, u32_at, u64_at, f64_at, coord_at}
use Rattle.shapes.specs.Source.{InBinary64, Lacks, LacksAxes}
use Rattle.shapes.specs.Wkb.{Reader, Run, if, fault, give, coord, points, times, counted, line, body, with_order, with_code, header, shape}
use Rattle.shapes.specs.Pending.{parts, pending, still, shape_of}
use Rattle.shapes.proofs.Coding.{coded, fits-dim}
use Rattle.shapes.proofs.Reading.{eights-fit, eights-cut}
use Rattle.shapes.proofs.Cursors.{width_two}

-- a coordinate as a source gives it
record Proper (d : Dimension) (c : Coord) : Type 0 where
  lacks : Lacks d c
  held : InBinary64 c

record Kept (d : Dimension) (n : ℕ) (r : Run) : Type 0 where
  few : 16 * length r.coords ≤ n
  proper : AllByRecursion (Proper d) r.coords

abbrev Bounded : Dimension → Reader → Type 0
Bounded d k = (b : List ℕ) → Kept d (length b) (k b)

abbrev Keeps : Dimension → (Reader → Reader) → Type 0
Keeps d r = (k : Reader) → Bounded d k → Bounded d (r k)

-- ---- fields

f64_fits : (o : Endian) (b : List ℕ) → T (holds binary64 (f64_at o b))
unfolding f64_at
f64_fits o b = of_bits-fits binary64 (u64_at o b)

proper_at : (o : Endian) (d : Dimension) (j : Bool) (b : List ℕ) → Proper d (coord_at o d j b)
proper_at o Xy j b = record { lacks = (refl, refl); held = (f64_fits o b, f64_fits o (drop 8 b), nan-fits binary64, nan-fits binary64) }
proper_at o Xyz j b = record { lacks = refl; held = (f64_fits o b, f64_fits o (drop 8 b), f64_fits o (drop 16 b), nan-fits binary64) }
proper_at o Xym j b = record { lacks = refl; held = (f64_fits o b, f64_fits o (drop 8 b), nan-fits binary64, f64_fits o (drop 16 b)) }
proper_at o Xyzm j b = record { lacks = tt; held = (f64_fits o b, f64_fits o (drop 8 b), f64_fits o (drop 16 b), f64_fits o (drop 24 b)) }

module _ (d : Dimension) where
  fault-kept : (n : ℕ) (c : Cause) (b : List ℕ) → Kept d n (fault c b)
  fault-kept n c b = record { few = omega arith; proper = tt }

  if_kept : (n : ℕ) (x : Bool) (p q : Reader) (b : List ℕ) → (x ≡ true → Kept d n (p b)) → Kept d n (q b) → Kept d n (if x p q b)
  if_kept n true p q b h h' = h refl
  if_kept n false p q b h h' = h'

  order_kept : (n : ℕ) (x : Option Endian) (f : Endian → Reader) (b : List ℕ) → ((o : Endian) → Kept d n (f o b)) → Kept d n (with_order x f b)
  order_kept n (Some o) f b h = h o
  order_kept n None f b h = record { few = omega arith; proper = tt }

  code-kept : (n : ℕ) (x : Option Code) (f : Code → Reader) (b : List ℕ) → ((c : Code) → Kept d n (f c b)) → Kept d n (with_code x f b)
  code-kept n (Some c) f b h = h c
  code-kept n None f b h = record { few = omega arith; proper = tt }

  dropped : (i : ℕ) (k : Reader) (b : List ℕ) → Bounded d k → Kept d (length b) (k (drop i b))
  dropped i k b h = let x = h (drop i b) in record { few = omega (arith, x.few, length-drop i b); proper = x.proper }

  points-keep : (o : Endian) (j : Bool) (n : ℕ) → Keeps d (points o d j n)
  unfolding points coord
  points-keep o j zero k h b = h b
  points-keep o j (suc n) k h b =
      let next : Reader = λ _. give (coord_at o d j b) (points o d true n k (drop (8 * width d) b)) in
      let P : Run → Type 0 = λ r. Kept d (length b) r in
      elim (cases_lt (length b) (8 * width d)) [
        | inl lt ↦ subst P (sym (eights-cut (width d) next b lt)) (record { few = omega arith; proper = tt })
        | inr ge ↦
            let x = points-keep o true n k h (drop (8 * width d) b) in
            subst P (sym (eights-fit (width d) next b ge)) (record { few = omega (arith, x.few, length-drop (8 * width d) b, width_two d); proper = (proper_at o d j b, x.proper) })
      ]

  times-keep : (r : Reader → Reader) → Keeps d r → (n : ℕ) → Keeps d (times r n)
  unfolding times
  times-keep r f zero k h b = h b
  times-keep r f (suc n) k h b = f (times r n k) (times-keep r f n k h) b

  counted-keep : (o : Endian) (r : ℕ → Reader → Reader) → ((n : ℕ) → Keeps d (r n)) → Keeps d (counted o r)
  unfolding counted
  counted-keep o r f k h b = if_kept (length b) (leb 4 (length b)) _ _ b (λ _. dropped 4 (r (u32_at o b) k) b (f (u32_at o b) k h)) (fault-kept (length b) Truncated b)

  line-keep : (o : Endian) → Keeps d (line o d)
  line-keep o = counted-keep o (points o d false) (points-keep o false)

  body-keep : (o : Endian) (part : Reader → Reader) (q : Kind) → Keeps d part → Keeps d (body o d part q)
  unfolding body
  body-keep o part Point f = points-keep o false 1
  body-keep o part Line f = line-keep o
  body-keep o part Polygon f = counted-keep o (times (line o d)) (times-keep (line o d) (line-keep o))
  body-keep o part MultiPoint f = counted-keep o (times part) (times-keep part f)
  body-keep o part MultiLine f = counted-keep o (times part) (times-keep part f)
  body-keep o part MultiPolygon f = counted-keep o (times part) (times-keep part f)
  body-keep o part Collection f = counted-keep o (times part) (times-keep part f)

-- ---- shapes

header-kept : (outer : Code) (f : Endian → Code → Reader) → ((o : Endian) (c : Code) → c.dim ≡ outer.dim → Bounded outer.dim (f o c)) → Bounded outer.dim (header (Some outer) f)
unfolding header
header-kept outer f h b =
    let n = length b in
    let d = outer.dim in
    if_kept d n (leb 1 n) _ _ b
    (λ _. order_kept d n (order_of (get_or b 0 0)) _ b (λ o. if_kept d n (leb 4 (length (drop 1 b))) _ _ (drop 1 b)
    (λ _. code-kept d n (code_of (u32_at o (drop 1 b))) _ (drop 1 b) (λ c. if_kept d n (fits (Some outer) c) _ _ (drop 1 b)
    (λ e. dropped d 5 (f o c) b (h o c (fits-dim outer.kind outer.dim c e)))
    (fault-kept d n PartType (drop 1 b))))
    (fault-kept d n Truncated (drop 1 b))))
    (fault-kept d n Truncated b)

shape-keep : (l : ℕ) (outer : Code) → Keeps outer.dim (shape l (Some outer))
unfolding shape
shape-keep zero outer k h b = fault-kept outer.dim (length b) TooDeep b
shape-keep (suc l) outer k h b =
    header-kept outer (λ o c. body o c.dim (shape l (Some c)) c.kind k)
    (λ o c e.
    let P : Dimension → Type 0 = λ x. Bounded x (body o c.dim (shape l (Some c)) c.kind k) in
    let Q : Dimension → Type 0 = λ x. Bounded x k in
    subst P e (body-keep c.dim o (shape l (Some c)) c.kind (shape-keep l c) k (subst Q (sym e) h))) b

parts-kept : (d : Dimension) (q : Kind) (counts : List ℕ) (depth : ℕ) → Bounded d (parts d q counts depth)
unfolding parts
parts-kept d q counts zero b = record { few = omega arith; proper = tt }
parts-kept d q counts (suc depth) b =
    times-keep d (shape (31 - depth) (Some (coded q d))) (shape-keep (31 - depth) (coded q d)) (get_or counts depth 0) (parts d Collection counts depth) (parts-kept d Collection counts depth) b

-- ---- cursors

pending-kept : (o : Endian) (d : Dimension) (j : Bool) (q : Kind) (counts : List ℕ) (depth : ℕ) → Bounded d (pending o d j q counts depth)
pending-kept o d j q counts depth =
    points-keep d o j (get_or counts 32 0) (times (line o d) (get_or counts 31 0) (parts d q counts depth))
    (times-keep d (line o d) (line-keep d o) (get_or counts 31 0) (parts d q counts depth) (parts-kept d q counts depth))

pub cursor_enough : (s : Cursor) → 16 * length (still s) ≤ length s.rest.now
unfolding still
cursor_enough s = (pending-kept s.order s.code.dim s.joins s.inner s.counts s.depth s.rest.now).few

all-lack : (d : Dimension) (cs : List Coord) → AllByRecursion (Proper d) cs → AllByRecursion (Lacks d) cs
all-lack d [] h = tt
all-lack d (c ∷ cs) h = (h.0.lacks, all-lack d cs h.1)

pub cursor_lacks : (s : Cursor) → LacksAxes (shape_of s)
unfolding still
cursor_lacks s = all-lack s.code.dim _ (pending-kept s.order s.code.dim s.joins s.inner s.counts s.depth s.rest.now).proper

pub cursor_held : (s : Cursor) (x : Coord) (cs : List Coord) → still s ≡ x ∷ cs → InBinary64 x
unfolding still
cursor_held s x cs e =
    let P : List Coord → Type 0 = λ l. AllByRecursion (Proper s.code.dim) l in
    (subst P e (pending-kept s.order s.code.dim s.joins s.inner s.counts s.depth s.rest.now).proper).0.held

all_held : (d : Dimension) (cs : List Coord) → AllByRecursion (Proper d) cs → AllByRecursion InBinary64 cs
all_held d [] h = tt
all_held d (c ∷ cs) h = (h.0.held, all_held d cs h.1)

pub cursor_all_held : (s : Cursor) → AllByRecursion InBinary64 (still s)
unfolding still
cursor_all_held s = all_held s.code.dim _ (pending-kept s.order s.code.dim s.joins s.inner s.counts s.depth s.rest.now).proper
