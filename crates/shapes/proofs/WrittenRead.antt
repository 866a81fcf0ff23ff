-- What is written is read.
use Rattle.std.proofs.Common.{◌≡◌, ℕ, zero, suc, ◌+◌, ◌*◌, ◌^◌, ◌<◌, ◌≤◌, Bool, true, false, eqb, List, [], ◌∷◌, ◌++◌, length, get_or, drop, Some, None, Option, sym, refl, ap, ◌∙◌, append_assoc, append-nil, arith, drop-drop}
use lib.Ieee.{nan, binary64, of_bits}
use Rattle.std.specs.List.{AllByRecursion, flat_map}
use Rattle.shapes.specs.declared.endian.Endian.{Endian}
use Rattle.shapes.specs.declared.endian.Endian.TheVariants.{Big, Little}
use Rattle.shapes.specs.declared.code.Dimension.{Dimension}
use Rattle.shapes.specs.declared.code.Dimension.TheVariants.{Xy, Xyz, Xym, Xyzm}
use Rattle.shapes.specs.declared.code.Code.{Code}
use Rattle.shapes.specs.declared.coord.Coord.{Coord}
use Rattle.shapes.specs.declared.code.Kind.{Kind}
use Rattle.shapes.specs.declared.code.Kind.TheVariants.{Point, Line, Polygon}
use Rattle.interval.specs.declared.fault.Cause.TheVariants.{PartType}
use Rattle.shapes.specs.Codes.{width, code_number, code_of, fits, takes, dim_number}
use Rattle.shapes.specs.Numbers.{u32_at, u64_at, f64_at, coord_at, order_of}
use Rattle.shapes.specs.Wkb.{Reader, Run, if, whole, fault, eights, coord, points, line, times, counted, give, header, with_order, with_code, body, shape, code_at, code_in, code_or, decoded, decode, levels, read, finish}
use Rattle.shapes.proofs.Coding.{number_small, code_of-number}
use Rattle.shapes.proofs.Reading.{whole-there}
use Rattle.shapes.specs.Tree.{Place, Parts, points as ofPoints, lines as ofLines, polygons as ofPolygons, anything, Tree, point, line as aLine, polygon, group, Trees, none, more, kind_of_group, kind, code, many, depth, deepest, bytes, order_byte, head, place, ring, written, written_all, float, coord_of, along, coords, coords_all, IsPlace, IsRing, MayHold, Good, GoodAll, WellFormed}

-- ---- numbers

pub u32_read : (o : Endian) (n : ℕ) (rest : List ℕ) → n < 2 ^ 32 → u32_at o (bytes o 4 n ++ rest) ≡ n
unfolding bytes
u32_read Big n rest h = omega arith
u32_read Little n rest h = omega arith

pub u64_read : (o : Endian) (n : ℕ) (rest : List ℕ) → n < 2 ^ 64 → u64_at o (bytes o 8 n ++ rest) ≡ n
unfolding bytes
u64_read Big n rest h = omega arith
u64_read Little n rest h = omega arith

pub f64_read : (o : Endian) (n : ℕ) (rest : List ℕ) → n < 2 ^ 64 → f64_at o (bytes o 8 n ++ rest) ≡ float n
unfolding f64_at
f64_read o n rest h = ap (of_bits binary64) (u64_read o n rest h)

pub skip_4 : (o : Endian) (n : ℕ) (rest : List ℕ) → drop 4 (bytes o 4 n ++ rest) ≡ rest
unfolding bytes
skip_4 Big n rest = refl
skip_4 Little n rest = refl

pub skip_8 : (o : Endian) (n : ℕ) (rest : List ℕ) → drop 8 (bytes o 8 n ++ rest) ≡ rest
unfolding bytes
skip_8 Big n rest = refl
skip_8 Little n rest = refl

pub size-4 : (o : Endian) (n : ℕ) (rest : List ℕ) → length (bytes o 4 n ++ rest) ≡ 4 + length rest
unfolding bytes
size-4 Big n rest = omega arith
size-4 Little n rest = omega arith

pub size-8 : (o : Endian) (n : ℕ) (rest : List ℕ) → length (bytes o 8 n ++ rest) ≡ 8 + length rest
unfolding bytes
size-8 Big n rest = omega arith
size-8 Little n rest = omega arith

-- ---- fields

abbrev pub prepend : List Coord → Run → Run
prepend cs r = record { coords = cs ++ r.coords; ending = r.ending }

-- r reads the bytes w as the coordinates cs
abbrev pub Reads : (Reader → Reader) → List ℕ → List Coord → Type 0
Reads r w cs = (k : Reader) (rest : List ℕ) → r k (w ++ rest) ≡ prepend cs (k rest)

eight_read : (o : Endian) (m n : ℕ) (k : Reader) (rest : List ℕ) → eights (suc m) k (bytes o 8 n ++ rest) ≡ eights m k rest
unfolding eights
eight_read o m n k rest =
    let h : 8 ≤ length (bytes o 8 n ++ rest) = omega (arith, size-8 o n rest) in
    whole-there 8 (λ c. eights m k (drop 8 c)) (bytes o 8 n ++ rest) h ∙ ap (eights m k) (skip_8 o n rest)

-- the ordinates of a place
pub eights-read : (o : Endian) (p : Place) (k : Reader) (rest : List ℕ) → eights (length p) k (place o p ++ rest) ≡ k rest
unfolding eights
eights-read o [] k rest = refl
eights-read o (n ∷ p) k rest =
    ap (eights (suc (length p)) k) (append_assoc (bytes o 8 n) (place o p) rest)
    ∙ eight_read o (length p) n k (place o p ++ rest)
    ∙ eights-read o p k rest

pub counted-read : (o : Endian) (r : ℕ → Reader → Reader) (n : ℕ) (k : Reader) (w : List ℕ) → n < 2 ^ 32 → counted o r k (bytes o 4 n ++ w) ≡ r n k w
unfolding counted
counted-read o r n k w h =
    let h4 : 4 ≤ length (bytes o 4 n ++ w) = omega (arith, size-4 o n w) in
    whole-there 4 (λ c. r (u32_at o c) k (drop 4 c)) (bytes o 4 n ++ w) h4
    ∙ ap (λ i. r i k (drop 4 (bytes o 4 n ++ w))) (u32_read o n w h)
    ∙ ap (r n k) (skip_4 o n w)

-- ---- coordinates

module _ (o : Endian) (rest : List ℕ) where
  step-8 : (i n : ℕ) (p : Place) → drop (8 * suc i) (place o (n ∷ p) ++ rest) ≡ drop (8 * i) (place o p ++ rest)
  step-8 i n p =
      let e : 8 * suc i ≡ 8 + 8 * i = omega arith in
      ap (λ m. drop m (place o (n ∷ p) ++ rest)) e
      ∙ sym (drop-drop (8 * i) 8 (place o (n ∷ p) ++ rest))
      ∙ ap (λ b. drop (8 * i) (drop 8 b)) (append_assoc (bytes o 8 n) (place o p) rest)
      ∙ ap (drop (8 * i)) (skip_8 o n (place o p ++ rest))

  pub skip_place : (p : Place) → drop (8 * length p) (place o p ++ rest) ≡ rest
  skip_place [] = refl
  skip_place (n ∷ p) = step-8 (length p) n p ∙ skip_place p

  ordinate_read : (p : Place) (i : ℕ) → i < length p → AllByRecursion (λ n. n < 2 ^ 64) p → f64_at o (drop (8 * i) (place o p ++ rest)) ≡ float (get_or p i 0)
  ordinate_read [] i l h = absurd (omega arith)
  ordinate_read (n ∷ p) zero l h = ap (f64_at o) (append_assoc (bytes o 8 n) (place o p) rest) ∙ f64_read o n (place o p ++ rest) h.0
  ordinate_read (n ∷ p) (suc i) l h = ap (f64_at o) (step-8 i n p) ∙ ordinate_read p i (omega arith) h.1

  -- the coordinate that stands in the bytes of a place
  pub coord_at-read : (d : Dimension) (j : Bool) (p : Place) → IsPlace d p → coord_at o d j (place o p ++ rest) ≡ coord_of d j p
  coord_at-read Xy j p h =
      let x = ordinate_read p 0 (omega arith) h.1 in
      let y = ordinate_read p 1 (omega arith) h.1 in
      λ i. record { x = x i; y = y i; z = nan; m = nan; joins = j }
  coord_at-read Xyz j p h =
      let x = ordinate_read p 0 (omega arith) h.1 in
      let y = ordinate_read p 1 (omega arith) h.1 in
      let z = ordinate_read p 2 (omega arith) h.1 in
      λ i. record { x = x i; y = y i; z = z i; m = nan; joins = j }
  coord_at-read Xym j p h =
      let x = ordinate_read p 0 (omega arith) h.1 in
      let y = ordinate_read p 1 (omega arith) h.1 in
      let m = ordinate_read p 2 (omega arith) h.1 in
      λ i. record { x = x i; y = y i; z = nan; m = m i; joins = j }
  coord_at-read Xyzm j p h =
      let x = ordinate_read p 0 (omega arith) h.1 in
      let y = ordinate_read p 1 (omega arith) h.1 in
      let z = ordinate_read p 2 (omega arith) h.1 in
      let m = ordinate_read p 3 (omega arith) h.1 in
      λ i. record { x = x i; y = y i; z = z i; m = m i; joins = j }

module _ (o : Endian) (d : Dimension) where
  pub coord-read : (j : Bool) (p : Place) → IsPlace d p → Reads (coord o d j) (place o p) (coord_of d j p ∷ [])
  unfolding coord
  coord-read j p h k rest =
      let b : List ℕ = place o p ++ rest in
      let after : drop (8 * width d) b ≡ rest = ap (λ w. drop (8 * w) b) (sym h.0) ∙ skip_place o rest p in
      ap (λ w. eights w (λ _. give (coord_at o d j b) (k (drop (8 * width d) b))) b) (sym h.0)
      ∙ eights-read o p (λ _. give (coord_at o d j b) (k (drop (8 * width d) b))) rest
      ∙ ap (λ c. give c (k (drop (8 * width d) b))) (coord_at-read o rest d j p h)
      ∙ ap (λ c. give (coord_of d j p) (k c)) after

  pub points-read : (j : Bool) (ps : List Place) → AllByRecursion (IsPlace d) ps → Reads (points o d j (length ps)) (flat_map (place o) ps) (along d j ps)
  unfolding points along
  points-read j [] h k rest = refl
  points-read j (p ∷ ps) h k rest =
      ap (coord o d j (points o d true (length ps) k)) (append_assoc (place o p) (flat_map (place o) ps) rest)
      ∙ coord-read j p h.0 (points o d true (length ps) k) (flat_map (place o) ps ++ rest)
      ∙ ap (give (coord_of d j p)) (points-read true ps h.1 k rest)

  pub line_read : (ps : List Place) → IsRing d ps → Reads (line o d) (ring o ps) (along d false ps)
  line_read ps h k rest =
      ap (line o d k) (append_assoc (bytes o 4 (length ps)) (flat_map (place o) ps) rest)
      ∙ counted-read o (points o d false) (length ps) k (flat_map (place o) ps ++ rest) h.0
      ∙ points-read false ps h.1 k rest

prepend-twice : (xs ys : List Coord) (r : Run) → prepend xs (prepend ys r) ≡ prepend (xs ++ ys) r
prepend-twice xs ys r = ap (λ cs. record { coords = cs; ending = r.ending }) (sym (append_assoc xs ys r.coords))

module _ {A : Type 0} (r : Reader → Reader) (P : A → Type 0) (f : A → List ℕ) (g : A → List Coord) (one : (a : A) → P a → Reads r (f a) (g a)) where
  pub times-read : (l : List A) → AllByRecursion P l → Reads (times r (length l)) (flat_map f l) (flat_map g l)
  unfolding times
  times-read [] h k rest = refl
  times-read (a ∷ l) h k rest =
      ap (r (times r (length l) k)) (append_assoc (f a) (flat_map f l) rest)
      ∙ one a h.0 (times r (length l) k) (flat_map f l ++ rest)
      ∙ ap (prepend (g a)) (times-read l h.1 k rest)
      ∙ prepend-twice (g a) (flat_map g l) (k rest)

-- ---- headers

order_of-byte : (o : Endian) → order_of (order_byte o) ≡ Some o
order_of-byte o = grind arith

module _ (outer : Option Code) (f : Endian → Code → Reader) (d : Dimension) (o : Endian) (k : Kind) where
  pub header_read : (w : List ℕ) → fits outer (record { kind = k; dim = d }) ≡ true → header outer f (head d o k ++ w) ≡ f o (record { kind = k; dim = d }) w
  unfolding header head
  header_read w h =
      let c : Code = record { kind = k; dim = d } in
      let n : ℕ = code_number (record { kind = k; dim = d }) in
      let x : List ℕ = bytes o 4 n ++ w in
      let b : List ℕ = order_byte o ∷ x in
      let last : Endian → Code → Reader = λ o' c'. if (fits outer c') (λ _. f o' c' (drop 4 x)) (fault PartType) in
      let middle : Endian → Reader = λ o' _. whole 4 (λ _. with_code (code_of (u32_at o' x)) (last o') x) x in
      let h1 : 1 ≤ length b = omega arith in
      let h4 : 4 ≤ length x = omega (arith, size-4 o n w) in
      whole-there 1 (λ _. with_order (order_of (order_byte o)) middle b) b h1
      ∙ ap (λ v. with_order v middle b) (order_of-byte o)
      ∙ whole-there 4 (λ _. with_code (code_of (u32_at o x)) (last o) x) x h4
      ∙ ap (λ v. with_code v (last o) x) (ap code_of (u32_read o n w (number_small k d)) ∙ code_of-number k d)
      ∙ ap (λ v. if v (λ _. f o c (drop 4 x)) (fault PartType) x) h
      ∙ ap (f o c) (skip_4 o n w)

-- ---- trees

takes_part : (g : Parts) (k : Kind) → MayHold g k → takes (kind_of_group g) k ≡ true
takes_part ofPoints k h = rw h refl
takes_part ofLines k h = rw h refl
takes_part ofPolygons k h = rw h refl
takes_part anything k h = refl

same-dim : (d : Dimension) → eqb (dim_number d) (dim_number d) ≡ true
same-dim d = grind arith

pub fits-part : (d : Dimension) (g : Parts) (k : Kind) → MayHold g k → fits (Some (record { kind = kind_of_group g; dim = d })) (record { kind = k; dim = d }) ≡ true
fits-part d g k h = rw (takes_part g k h, same-dim d) refl

pub shape-read : (l : ℕ) (outer : Option Code) (d : Dimension) (o : Endian) (k : Kind) (w : List ℕ) (cs : List Coord) → fits outer (record { kind = k; dim = d }) ≡ true → Reads (body o d (shape l (Some (record { kind = k; dim = d }))) k) w cs → Reads (shape (suc l) outer) (head d o k ++ w) cs
unfolding shape
shape-read l outer d o k w cs h r next rest =
    let f : Endian → Code → Reader = λ o' c. body o' c.dim (shape l (Some c)) c.kind next in
    ap (header outer f) (append_assoc (head d o k) w rest)
    ∙ header_read outer f d o k (w ++ rest) h
    ∙ r next rest

-- a count, and so many
many_read : (o : Endian) (r : Reader → Reader) (n : ℕ) (w : List ℕ) (cs : List Coord) → n < 2 ^ 32 → Reads (times r n) w cs → Reads (counted o (times r)) (bytes o 4 n ++ w) cs
many_read o r n w cs h p k rest =
    ap (counted o (times r) k) (append_assoc (bytes o 4 n) w rest)
    ∙ counted-read o (times r) n k (w ++ rest) h
    ∙ p k rest

group-read : (o : Endian) (d : Dimension) (part : Reader → Reader) (g : Parts) (w : List ℕ) (cs : List Coord) → Reads (counted o (times part)) w cs → Reads (body o d part (kind_of_group g)) w cs
unfolding body
group-read o d part ofPoints w cs p = p
group-read o d part ofLines w cs p = p
group-read o d part ofPolygons w cs p = p
group-read o d part anything w cs p = p

point-read : (o : Endian) (d : Dimension) (part : Reader → Reader) (p : Place) → IsPlace d p → Reads (body o d part Point) (place o p) (coord_of d false p ∷ [])
unfolding body points
point-read o d part p h k rest = coord-read o d false p h (points o d true 0 k) rest

aline_read : (o : Endian) (d : Dimension) (part : Reader → Reader) (ps : List Place) → IsRing d ps → Reads (body o d part Line) (ring o ps) (along d false ps)
unfolding body
aline_read o d part ps h = line_read o d ps h

polygon-read : (o : Endian) (d : Dimension) (part : Reader → Reader) (rs : List (List Place)) → length rs < 2 ^ 32 → AllByRecursion (IsRing d) rs → Reads (body o d part Polygon) (bytes o 4 (length rs) ++ flat_map (ring o) rs) (flat_map (along d false) rs)
unfolding body
polygon-read o d part rs l h = many_read o (line o d) (length rs) (flat_map (ring o) rs) (flat_map (along d false) rs) l (times-read (line o d) (IsRing d) (ring o) (along d false) (line_read o d) rs h)

mutual
  unfolding Good depth written coords times

  pub tree-read : (tr : Tree) (l : ℕ) (outer : Option Code) (d : Dimension) → Good d tr → depth tr ≤ l → fits outer (code d tr) ≡ true → Reads (shape l outer) (written d tr) (coords d tr)
  tree-read (point o p) zero outer d h e f = absurd (omega arith)
  tree-read (point o p) (suc l) outer d h e f = shape-read l outer d o Point (place o p) (coord_of d false p ∷ []) f (point-read o d (shape l (Some (record { kind = Point; dim = d }))) p h)
  tree-read (aLine o ps) zero outer d h e f = absurd (omega arith)
  tree-read (aLine o ps) (suc l) outer d h e f = shape-read l outer d o Line (ring o ps) (along d false ps) f (aline_read o d (shape l (Some (record { kind = Line; dim = d }))) ps h)
  tree-read (polygon o rs) zero outer d h e f = absurd (omega arith)
  tree-read (polygon o rs) (suc l) outer d h e f = shape-read l outer d o Polygon (bytes o 4 (length rs) ++ flat_map (ring o) rs) (flat_map (along d false) rs) f (polygon-read o d (shape l (Some (record { kind = Polygon; dim = d }))) rs h.0 h.1)
  tree-read (group o g ts) zero outer d h e f = absurd (omega arith)
  tree-read (group o g ts) (suc l) outer d h e f =
      let part : Reader → Reader = shape l (Some (record { kind = kind_of_group g; dim = d })) in
      shape-read l outer d o (kind_of_group g) (bytes o 4 (many ts) ++ written_all d ts) (coords_all d ts) f
      (group-read o d part g (bytes o 4 (many ts) ++ written_all d ts) (coords_all d ts)
      (many_read o part (many ts) (written_all d ts) (coords_all d ts) h.0 (trees_read ts l d g h.1 (omega arith))))

  pub trees_read : (ts : Trees) (l : ℕ) (d : Dimension) (g : Parts) → GoodAll d g ts → deepest ts ≤ l → Reads (times (shape l (Some (record { kind = kind_of_group g; dim = d }))) (many ts)) (written_all d ts) (coords_all d ts)
  trees_read none l d g h e k rest = refl
  trees_read (more tr ts) l d g h e k rest =
      let part : Reader → Reader = shape l (Some (record { kind = kind_of_group g; dim = d })) in
      ap (part (times part (many ts) k)) (append_assoc (written d tr) (written_all d ts) rest)
      ∙ tree-read tr l (Some (record { kind = kind_of_group g; dim = d })) d h.1 (omega arith) (fits-part d g (kind tr) h.0) (times part (many ts) k) (written_all d ts ++ rest)
      ∙ ap (prepend (coords d tr)) (trees_read ts l d g h.2 (omega arith) k rest)
      ∙ prepend-twice (coords d tr) (coords_all d ts) (k rest)

-- ---- the law

code_at-head : (d : Dimension) (o : Endian) (k : Kind) (w : List ℕ) → code_at (head d o k ++ w) ≡ record { kind = k; dim = d }
unfolding head
code_at-head d o k w =
    let n : ℕ = code_number (record { kind = k; dim = d }) in
    ap (λ v. code_in v (head d o k ++ w)) (order_of-byte o)
    ∙ ap (λ v. code_or (code_of v)) (u32_read o n w (number_small k d))
    ∙ ap code_or (code_of-number k d)

pub code_at-written : (d : Dimension) (tr : Tree) → code_at (written d tr) ≡ code d tr
unfolding written
code_at-written d (point o p) = code_at-head d o Point (place o p)
code_at-written d (aLine o ps) = code_at-head d o Line (ring o ps)
code_at-written d (polygon o rs) = code_at-head d o Polygon (bytes o 4 (length rs) ++ flat_map (ring o) rs)
code_at-written d (group o g ts) = code_at-head d o (kind_of_group g) (bytes o 4 (many ts) ++ written_all d ts)

pub written-is_read : (d : Dimension) (t : Tree) → WellFormed d t → decode (written d t) ≡ read (code d t) (coords d t)
written-is_read d tr h =
    let b : List ℕ = written d tr in
    let run : shape levels None finish b ≡ prepend (coords d tr) (finish []) =
    ap (shape levels None finish) (sym (append-nil b)) ∙ tree-read tr levels None d h.good h.shallow refl finish [] in
    ap (λ r. decoded (length b) r.ending (code_at b) r.coords) run
    ∙ ap (λ c. read c (coords d tr ++ [])) (code_at-written d tr)
    ∙ ap (read (code d tr)) (append-nil (coords d tr))
