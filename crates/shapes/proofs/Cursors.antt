-- Laws of a cursor's pending counts.
use Rattle.std.proofs.Common.{◌≡◌, ℕ, zero, suc, ◌+◌, ◌-◌, ◌*◌, ◌<◌, ◌≤◌, Bool, true, false, ◌≢◌, List, [], ◌∷◌, length, get_or, drop, set, replicate, Some, None, Ok, Err, Result, MatchResult, Option, MatchOption, sym, refl, ap, ◌∙◌, subst, arith, length-set, get_or-set_other, get_or-set_same}
use lib.Ieee.{Float}
use Rattle.std.specs.Result.{result_ok}
use Rattle.interval.specs.declared.fault.Cause.TheVariants.{Truncated}
use Rattle.shapes.specs.declared.endian.Endian.{Endian}
use Rattle.shapes.specs.declared.endian.Endian.TheVariants.{Big, Little}
use Rattle.shapes.specs.declared.code.Dimension.{Dimension}
use Rattle.shapes.specs.declared.code.Dimension.TheVariants.{Xy, Xyz, Xym, Xyzm}
use Rattle.shapes.specs.declared.code.Kind.{Kind}
use Rattle.shapes.specs.declared.code.Kind.TheVariants.{Point, Line, Polygon, MultiPoint, MultiLine, MultiPolygon, Collection}
use Rattle.shapes.specs.declared.code.Code.{Code}
use Rattle.shapes.specs.declared.coord.Coord.{Coord}
use Rattle.shapes.specs.declared.stop.Stop.{Stop}
use Rattle.shapes.specs.Codes.{width}
use Rattle.shapes.specs.Numbers.{u32_at, f64_at, coord_at}
use Rattle.shapes.specs.Source.{Shape}
use Rattle.shapes.specs.Wkb.{Reader, points, line, times, counted, shape, finish, fault, body, coord, give, Headed, Unheaded, placed, decode, refused, read, levels}
use Rattle.shapes.specs.Pending.{pending, parts}
use Rattle.shapes.proofs.Coding.{coded}
use Rattle.shapes.proofs.Reading.{counted-there, whole-not, shape_is, shape-header, shape-unheaded, eights-fit, eights-cut, decode-fails}

-- ---- answers of which only the `Ok` is kept

pub kept : {T E : Type 0} (r : Result T E) (P : T → Type 0) (Q : E → Type 0) (x : T) → result_ok r ≡ Some x → MatchResult r P Q → P x
kept (Ok y) P Q x e m = let q : y ≡ x = cc in subst P q m
kept (Err f) P Q x e m = cc

pub lost : {T E : Type 0} (r : Result T E) (P : T → Type 0) (Q : E → Type 0) → result_ok r ≡ None → MatchResult r P Q → (f : E) × Q f
lost (Ok y) P Q e m = cc
lost (Err f) P Q e m = (f, m)

pub by_option : {A X : Type 0} (r : Option A) {P : Type 0} {Q : A → Type 0} → MatchOption r P Q → (P → X) → ((x : A) → Q x → X) → X
by_option None w f g = f w
by_option (Some x) w f g = g x w

-- ---- counts

-- the parts to come do not depend on counts at or past the depth
pub parts-set : (d : Dimension) (q : Kind) (counts : List ℕ) (depth i v : ℕ) → depth ≤ i → parts d q (set counts i v) depth ≡ parts d q counts depth
unfolding parts
parts-set d q counts zero i v h = refl
parts-set d q counts (suc depth) i v h =
    let ne : depth ≢ i = omega arith in
    let le : depth ≤ i = omega arith in
    ap (λ n. times (shape (31 - depth) (Some (coded q d))) n (parts d Collection (set counts i v) depth)) (get_or-set_other counts i depth v 0 ne)
    ∙ ap (times (shape (31 - depth) (Some (coded q d))) (get_or counts depth 0)) (parts-set d Collection counts depth i v le)

pub points_none : (o : Endian) (d : Dimension) (j : Bool) (n : ℕ) (k : Reader) (b : List ℕ) → n ≡ 0 → points o d j n k b ≡ k b
unfolding points
points_none o d j n k b e = ap (λ m. points o d j m k b) e

pub times_zero : (r : Reader → Reader) (n : ℕ) (k : Reader) (b : List ℕ) → n ≡ 0 → times r n k b ≡ k b
unfolding times
times_zero r n k b e = ap (λ m. times r m k b) e

times-some : (r : Reader → Reader) (n : ℕ) (k : Reader) (b : List ℕ) → 0 < n → times r n k b ≡ r (times r (n - 1) k) b
unfolding times
times-some r n k b h = let e : n ≡ suc (n - 1) = omega arith in ap (λ m. times r m k b) e

times-idle : (r : Reader → Reader) (k : Reader) → times r 0 k ≡ k
unfolding times
times-idle r k = refl

counted-short : (o : Endian) (r : ℕ → Reader → Reader) (k : Reader) (b : List ℕ) → length b < 4 → counted o r k b ≡ fault Truncated b
unfolding counted
counted-short o r k b h = whole-not 4 (λ c. r (u32_at o c) k (drop 4 c)) b h

-- with no point and no ring to come, the parts are
pub pending-parts : (o : Endian) (d : Dimension) (j : Bool) (q : Kind) (counts : List ℕ) (depth : ℕ) (b : List ℕ) → get_or counts 31 0 ≡ 0 → get_or counts 32 0 ≡ 0 → pending o d j q counts depth b ≡ parts d q counts depth b
pending-parts o d j q counts depth b e1 e2 =
    points_none o d j (get_or counts 32 0) _ b e2 ∙ times_zero (line o d) (get_or counts 31 0) (parts d q counts depth) b e1

pub parts-pop : (d : Dimension) (q : Kind) (counts : List ℕ) (depth : ℕ) (b : List ℕ) → 0 < depth → get_or counts (depth - 1) 0 ≡ 0 → parts d q counts depth b ≡ parts d Collection counts (depth - 1) b
unfolding parts
parts-pop d q counts depth b h e =
    let s : depth ≡ suc (depth - 1) = omega arith in
    ap (λ m. parts d q counts m b) s ∙ times_zero (shape (31 - (depth - 1)) (Some (coded q d))) (get_or counts (depth - 1) 0) (parts d Collection counts (depth - 1)) b e

-- ---- rings

module _ (o : Endian) (d : Dimension) (j : Bool) (q : Kind) (counts : List ℕ) (depth : ℕ) (b : List ℕ) where
  pub pending-at : (n m : ℕ) (P : Reader) → get_or counts 32 0 ≡ n → get_or counts 31 0 ≡ m → parts d q counts depth ≡ P → pending o d j q counts depth b ≡ points o d j n (times (line o d) m P) b
  pending-at n m P e32 e31 ep =
      ap (λ i. points o d j i (times (line o d) (get_or counts 31 0) (parts d q counts depth)) b) e32
      ∙ ap (λ i. points o d j n (times (line o d) i (parts d q counts depth)) b) e31
      ∙ ap (λ (K : Reader). points o d j n (times (line o d) m K) b) ep

  pending-ring : get_or counts 32 0 ≡ 0 → 0 < get_or counts 31 0 → pending o d j q counts depth b ≡ line o d (times (line o d) (get_or counts 31 0 - 1) (parts d q counts depth)) b
  pending-ring e h = points_none o d j (get_or counts 32 0) _ b e ∙ times-some (line o d) (get_or counts 31 0) (parts d q counts depth) b h

  pub ring_cut : get_or counts 32 0 ≡ 0 → 0 < get_or counts 31 0 → length b < 4 → (pending o d j q counts depth b).coords ≡ []
  ring_cut e h s = ap (λ r. r.coords) (pending-ring e h ∙ counted-short o (points o d false) (times (line o d) (get_or counts 31 0 - 1) (parts d q counts depth)) b s)

  pub ring-there : (n : ℕ) (rest : List ℕ) → length counts ≡ 33 → depth ≤ 31 → get_or counts 32 0 ≡ 0 → 0 < get_or counts 31 0 → 4 ≤ length b → n ≡ u32_at o b → rest ≡ drop 4 b →
      pending o d false q (set (set counts 31 (get_or counts 31 0 - 1)) 32 n) depth rest ≡ pending o d j q counts depth b
  ring-there n rest l le e h h4 en er =
      let m = get_or counts 31 0 - 1 in
      let counts1 = set counts 31 m in
      let counts2 = set counts1 32 n in
      let h31 : 31 < length counts = omega arith in
      let h32 : 32 < length counts1 = simp length-set (omega arith) in
      let ne : ◌≢◌ {A = ℕ} 31 32 = omega arith in
      let le2 : depth ≤ 32 = omega arith in
      let e32 : get_or counts2 32 0 ≡ n = get_or-set_same counts1 32 n 0 h32 in
      let e31 : get_or counts2 31 0 ≡ m = get_or-set_other counts1 32 31 n 0 ne ∙ get_or-set_same counts 31 m 0 h31 in
      let ep : parts d q counts2 depth ≡ parts d q counts depth = parts-set d q counts1 depth 32 n le2 ∙ parts-set d q counts depth 31 m le in
      ap (λ i. points o d false i (times (line o d) (get_or counts2 31 0) (parts d q counts2 depth)) rest) e32
      ∙ ap (λ i. points o d false n (times (line o d) i (parts d q counts2 depth)) rest) e31
      ∙ ap (λ (K : Reader). points o d false n (times (line o d) m K) rest) ep
      ∙ sym (pending-ring e h ∙ counted-there o (points o d false) b n rest (times (line o d) m (parts d q counts depth)) h4 en er)

-- ---- a shape that begins

module _ (o : Endian) (d : Dimension) (inner : Kind) (counts : List ℕ) (depth : ℕ) (l : length counts ≡ 33) (le : depth ≤ 31) (e31 : get_or counts 31 0 ≡ 0) (e32 : get_or counts 32 0 ≡ 0) where
  -- n points and nothing else of the shape
  pub begin_points : (n : ℕ) (rest : List ℕ) → pending o d false inner (set counts 32 n) depth rest ≡ points o d false n (parts d inner counts depth) rest
  begin_points n rest =
      let h32 : 32 < length counts = omega arith in
      let ne : ◌≢◌ {A = ℕ} 31 32 = omega arith in
      let le2 : depth ≤ 32 = omega arith in
      pending-at o d false inner (set counts 32 n) depth rest n 0 (parts d inner counts depth) (get_or-set_same counts 32 n 0 h32) (get_or-set_other counts 32 31 n 0 ne ∙ e31) (parts-set d inner counts depth 32 n le2)
      ∙ ap (λ (K : Reader). points o d false n K rest) (times-idle (line o d) (parts d inner counts depth))

  pub begin_rings : (j : Bool) (n : ℕ) (rest : List ℕ) → pending o d j inner (set counts 31 n) depth rest ≡ times (line o d) n (parts d inner counts depth) rest
  begin_rings j n rest =
      let h31 : 31 < length counts = omega arith in
      let ne : ◌≢◌ {A = ℕ} 32 31 = omega arith in
      pending-at o d j inner (set counts 31 n) depth rest 0 n (parts d inner counts depth) (get_or-set_other counts 31 32 n 0 ne ∙ e32) (get_or-set_same counts 31 n 0 h31) (parts-set d inner counts depth 31 n le)
      ∙ points_none o d j 0 (times (line o d) n (parts d inner counts depth)) rest refl

  pub begin_parts : (j : Bool) (q : Kind) (n : ℕ) (rest : List ℕ) → depth < 31 → (0 < depth → inner ≡ Collection) →
      pending o d j q (set counts depth n) (depth + 1) rest ≡ times (shape (31 - depth) (Some (coded q d))) n (parts d inner counts depth) rest
  unfolding parts
  begin_parts j q n rest h same =
      let hd : depth < length counts = omega arith in
      let ne31 : 31 ≢ depth = omega arith in
      let ne32 : 32 ≢ depth = omega arith in
      let le2 : depth ≤ depth = omega arith in
      let s : depth + 1 ≡ suc depth = omega arith in
      let below : parts d Collection counts depth ≡ parts d inner counts depth = below-same depth same in
      pending-parts o d j q (set counts depth n) (depth + 1) rest (get_or-set_other counts depth 31 n 0 ne31 ∙ e31) (get_or-set_other counts depth 32 n 0 ne32 ∙ e32)
      ∙ ap (λ m. parts d q (set counts depth n) m rest) s
      ∙ ap (λ m. times (shape (31 - depth) (Some (coded q d))) m (parts d Collection (set counts depth n) depth) rest) (get_or-set_same counts depth n 0 hd)
      ∙ ap (λ (K : Reader). times (shape (31 - depth) (Some (coded q d))) n K rest) (parts-set d Collection counts depth depth n le2 ∙ below)
    where
      below-same : (m : ℕ) → (0 < m → inner ≡ Collection) → parts d Collection counts m ≡ parts d inner counts m
      below-same zero e = refl
      below-same (suc m) e = let h : 0 < suc m = omega arith in ap (λ i. parts d i counts (suc m)) (sym (e h))

-- ---- a shape whose count is cut, and one whose parts stand too deep

pub body-short : (o : Endian) (d : Dimension) (part : Reader → Reader) (q : Kind) (k : Reader) (b : List ℕ) → (q ≡ Point → ⊥) → length b < 4 → (body o d part q k b).coords ≡ []
unfolding body
body-short o d part Point k b a h = absurd (a refl)
body-short o d part Line k b a h = ap (λ r. r.coords) (counted-short o (points o d false) k b h)
body-short o d part Polygon k b a h = ap (λ r. r.coords) (counted-short o (times (line o d)) k b h)
body-short o d part MultiPoint k b a h = ap (λ r. r.coords) (counted-short o (times part) k b h)
body-short o d part MultiLine k b a h = ap (λ r. r.coords) (counted-short o (times part) k b h)
body-short o d part MultiPolygon k b a h = ap (λ r. r.coords) (counted-short o (times part) k b h)
body-short o d part Collection k b a h = ap (λ r. r.coords) (counted-short o (times part) k b h)

pub too_deep : (l : ℕ) (c : Code) (n : ℕ) (k : Reader) (b : List ℕ) → l ≡ 0 → 0 < n → (times (shape l (Some c)) n k b).coords ≡ []
unfolding shape
too_deep l c n k b e h =
    ap (λ i. (times (shape i (Some c)) n k b).coords) e ∙ ap (λ r. r.coords) (times-some (shape 0 (Some c)) n k b h)

-- ---- the next part of the innermost container

module _ (d : Dimension) (inner : Kind) (counts : List ℕ) (depth : ℕ) (b : List ℕ) (hd : 0 < depth) (le : depth ≤ 31) (hn : 0 < get_or counts (depth - 1) 0) where
  abbrev fewer : List ℕ
  fewer = set counts (depth - 1) (get_or counts (depth - 1) 0 - 1)

  abbrev outer : Code
  outer = coded inner d

  part_first : parts d inner counts depth b ≡ shape (31 - (depth - 1)) (Some outer) (times (shape (31 - (depth - 1)) (Some outer)) (get_or counts (depth - 1) 0 - 1) (parts d Collection counts (depth - 1))) b
  unfolding parts
  part_first =
      let s : depth ≡ suc (depth - 1) = omega arith in
      ap (λ m. parts d inner counts m b) s ∙ times-some (shape (31 - (depth - 1)) (Some outer)) (get_or counts (depth - 1) 0) (parts d Collection counts (depth - 1)) b hn

  part_others : length counts ≡ 33 → parts d inner fewer depth ≡ times (shape (31 - (depth - 1)) (Some outer)) (get_or counts (depth - 1) 0 - 1) (parts d Collection counts (depth - 1))
  unfolding parts
  part_others l =
      let s : depth ≡ suc (depth - 1) = omega arith in
      let h : depth - 1 < length counts = omega arith in
      let le2 : depth - 1 ≤ depth - 1 = omega arith in
      ap (parts d inner fewer) s
      ∙ ap (λ n. times (shape (31 - (depth - 1)) (Some outer)) n (parts d Collection fewer (depth - 1))) (get_or-set_same counts (depth - 1) (get_or counts (depth - 1) 0 - 1) 0 h)
      ∙ ap (times (shape (31 - (depth - 1)) (Some outer)) (get_or counts (depth - 1) 0 - 1)) (parts-set d Collection counts (depth - 1) (depth - 1) (get_or counts (depth - 1) 0 - 1) le2)

  pub part_headed : (o : Endian) (c : Code) (after : List ℕ) → length counts ≡ 33 → c.dim ≡ d → Headed (Some outer) b o c after →
      parts d inner counts depth b ≡ body o d (shape (31 - depth) (Some (coded c.kind d))) c.kind (parts d inner fewer depth) after
  part_headed o c after l ed u =
      let hl : 0 < 31 - (depth - 1) = omega arith in
      let el : 31 - (depth - 1) - 1 ≡ 31 - depth = omega arith in
      part_first
      ∙ ap (λ (K : Reader). shape (31 - (depth - 1)) (Some outer) K b) (sym (part_others l))
      ∙ shape_is (31 - (depth - 1)) (Some outer) b o c after (body o c.dim (shape (31 - (depth - 1) - 1) (Some c)) c.kind) hl u refl (parts d inner fewer depth)
      ∙ ap (λ i. body o c.dim (shape i (Some c)) c.kind (parts d inner fewer depth) after) el
      ∙ ap (λ x. body o x (shape (31 - depth) (Some (coded c.kind x))) c.kind (parts d inner fewer depth) after) ed

  pub part_unheaded : (s : Stop) → Unheaded (Some outer) b s → (parts d inner counts depth b).coords ≡ []
  part_unheaded s u =
      let hl : 0 < 31 - (depth - 1) = omega arith in
      let K = times (shape (31 - (depth - 1)) (Some outer)) (get_or counts (depth - 1) 0 - 1) (parts d Collection counts (depth - 1)) in
      ap (λ r. r.coords) (part_first ∙ shape-header (31 - (depth - 1)) (Some outer) b hl K ∙ u.stops (λ o c. body o c.dim (shape (31 - (depth - 1) - 1) (Some c)) c.kind K))

-- ---- a coordinate

pub f64_list : (o : Endian) (b : List ℕ) → f64_at o (get_or b 0 0 ∷ get_or b 1 0 ∷ get_or b 2 0 ∷ get_or b 3 0 ∷ get_or b 4 0 ∷ get_or b 5 0 ∷ get_or b 6 0 ∷ get_or b 7 0 ∷ []) ≡ f64_at o b
unfolding f64_at
f64_list Big b = refl
f64_list Little b = refl

pub width_two : (d : Dimension) → 2 ≤ width d
width_two Xy = omega arith
width_two Xyz = omega arith
width_two Xym = omega arith
width_two Xyzm = omega arith

module _ (o : Endian) (d : Dimension) (j : Bool) (n : ℕ) (k : Reader) (b : List ℕ) (h : 0 < n) where
  pub coord-there : 8 * width d ≤ length b → (points o d j n k b).coords ≡ coord_at o d j b ∷ (points o d true (n - 1) k (drop (8 * width d) b)).coords
  unfolding points coord
  coord-there w =
      let e : n ≡ suc (n - 1) = omega arith in
      ap (λ m. (points o d j m k b).coords) e
      ∙ ap (λ r. r.coords) (eights-fit (width d) (λ _. give (coord_at o d j b) (points o d true (n - 1) k (drop (8 * width d) b))) b w)

  pub coord-cut : length b < 8 * width d → (points o d j n k b).coords ≡ []
  unfolding points coord
  coord-cut w =
      let e : n ≡ suc (n - 1) = omega arith in
      ap (λ m. (points o d j m k b).coords) e
      ∙ ap (λ r. r.coords) (eights-cut (width d) (λ _. give (coord_at o d j b) (points o d true (n - 1) k (drop (8 * width d) b))) b w)

pub give-next : (o : Endian) (d : Dimension) (j : Bool) (q : Kind) (counts : List ℕ) (depth : ℕ) (b rest : List ℕ) (x : Coord) → length counts ≡ 33 → depth ≤ 31 → 0 < get_or counts 32 0 → 8 * width d ≤ length b → rest ≡ drop (8 * width d) b → x ≡ coord_at o d j b →
    (pending o d j q counts depth b).coords ≡ x ∷ (pending o d true q (set counts 32 (get_or counts 32 0 - 1)) depth rest).coords
give-next o d j q counts depth b rest x l le h w e ex =
    let n = get_or counts 32 0 - 1 in
    let K = times (line o d) (get_or counts 31 0) (parts d q counts depth) in
    let h32 : 32 < length counts = omega arith in
    let ne : ◌≢◌ {A = ℕ} 31 32 = omega arith in
    let le2 : depth ≤ 32 = omega arith in
    coord-there o d j (get_or counts 32 0) K b h w
    ∙ ap (λ cs. coord_at o d j b ∷ cs) (ap (λ r. (points o d true n K r).coords) (sym e)
    ∙ sym (ap (λ r. r.coords) (pending-at o d true q (set counts 32 n) depth rest n (get_or counts 31 0) (parts d q counts depth) (get_or-set_same counts 32 n 0 h32) (get_or-set_other counts 32 31 n 0 ne) (parts-set d q counts depth 32 n le2))))
    ∙ ap (λ y. y ∷ (pending o d true q (set counts 32 n) depth rest).coords) (sym ex)

-- the same ordinates make the same coordinate
pub coord-same : {x x' y y' z z' m m' : Float} (j : Bool) → x ≡ x' → y ≡ y' → z ≡ z' → m ≡ m' → ◌≡◌ {A = Coord} (record { x = x; y = y; z = z; m = m; joins = j }) (record { x = x'; y = y'; z = z'; m = m'; joins = j })
coord-same j ex ey ez em = cc

-- ---- a fresh cursor

pub whole-headed : (inner : Kind) (counts b : List ℕ) (o : Endian) (c : Code) (after : List ℕ) → Headed None b o c after →
    body o c.dim (shape 31 (Some c)) c.kind (parts c.dim inner counts 0) after ≡ shape levels None finish b
unfolding parts
whole-headed inner counts b o c after u =
    let h : ◌<◌ 0 32 = omega arith in
    sym (shape_is 32 None b o c after (body o c.dim (shape 31 (Some c)) c.kind) h u refl finish)

-- where the outermost header is at fault, the bytes are not read
pub whole-unheaded : (b : List ℕ) (s : Stop) (c : Code) (cs : List Coord) → Unheaded None b s → decode b ≡ read c cs → ⊥
whole-unheaded b s c cs u e =
    let h : ◌<◌ 0 32 = omega arith in
    let r : decode b ≡ refused (placed (length b) s.cause s.left) = decode-fails b s (shape-unheaded 32 None b s h u) in
    let z : ◌≡◌ {A = ℕ} 0 1 = cc in omega arith

pub none-pending : (o : Endian) (d : Dimension) (j : Bool) (q : Kind) (b : List ℕ) → (pending o d j q (replicate 33 0) 0 b).coords ≡ []
unfolding parts points times
none-pending o d j q b = refl

pub shape_same : {a b : Code} {cs ds : List Coord} → a ≡ b → cs ≡ ds → ◌≡◌ {A = Shape} (record { code = a; coords = cs }) (record { code = b; coords = ds })
shape_same p q = cc
