-- Laws of the readers.
use Rattle.std.proofs.Common.{get_or-drop, ◌≡◌, ℕ, zero, suc, ◌+◌, ◌-◌, ◌*◌, ◌%◌, ◌<◌, ◌≤◌, Bool, true, false, ◌≢◌, List, [], ◌∷◌, length, get_or, drop, Some, None, Option, Result, sym, refl, ap, ◌∙◌, inl, inr, suc-mul, zero-mul, arith, length-drop, drop-drop, Bor, ne_eqb, le-leb, MatchResult}
use Rattle.std.specs.Result.{IsErrAnd}
use Rattle.std.proofs.lemmas.Result.{MatchResult-weaker, err_from_is_err_and}
use Rattle.std.proofs.lemmas.Bool.{cases_lt, cases_eq}
use borrow.Author.Tests.{lt-leb}
use Rattle.shapes.specs.declared.endian.Endian.{Endian}
use Rattle.shapes.specs.declared.endian.Endian.TheVariants.{Big, Little}
use Rattle.shapes.specs.declared.code.Dimension.{Dimension}
use Rattle.shapes.specs.declared.code.Code.{Code}
use Rattle.shapes.specs.declared.coord.Coord.{Coord}
use Rattle.shapes.specs.declared.stop.Stop.{Stop}
use Rattle.shapes.specs.declared.code.Kind.{Kind}
use Rattle.shapes.specs.declared.code.Kind.TheVariants.{Point, Line, Polygon, MultiPoint, MultiLine, MultiPolygon, Collection}
use Rattle.interval.specs.declared.fault.Cause.{Cause}
use Rattle.interval.specs.declared.fault.Cause.TheVariants.{Truncated, ByteOrder, TypeCode, PartType, TooDeep, TrailingBytes}
use Rattle.interval.specs.declared.fault.Fault.{Fault}
use Rattle.shapes.specs.Codes.{width, code_of, fits}
use Rattle.shapes.specs.Numbers.{u32_at, coord_at, order_of}
use Rattle.shapes.specs.Wkb.{Reader, Run, run_of, Ending, stop, ended, whole, fault, give, eights, coord, points, line, times, counted, header, body, shape, placed, before, Passes, Fails, Headed, Unheaded, Follows, PointsFollow, code_at, code_in, code_or, coords_in, decode, decoded, refused, read, finish, levels}

pub u32_list : (o : Endian) (b : List ℕ) → u32_at o (get_or b 0 0 ∷ get_or b 1 0 ∷ get_or b 2 0 ∷ get_or b 3 0 ∷ []) ≡ u32_at o b
u32_list Big b = refl
u32_list Little b = refl

-- a field that is there, and one that is not
pub whole-there : (n : ℕ) (k : Reader) (b : List ℕ) → n ≤ length b → whole n k b ≡ k b
whole-there n k b h = rw (le-leb n (length b) h) refl

pub whole-not : (n : ℕ) (k : Reader) (b : List ℕ) → length b < n → whole n k b ≡ fault Truncated b
whole-not n k b h = rw (lt-leb n (length b) h) refl

pub eights-fit : (n : ℕ) (k : Reader) (b : List ℕ) → 8 * n ≤ length b → eights n k b ≡ k (drop (8 * n) b)
unfolding eights
eights-fit zero k b h = refl
eights-fit (suc n) k b h =
    let h8 : 8 ≤ length b = omega arith in
    let hn : 8 * n ≤ length (drop 8 b) = simp length-drop (omega arith) in
    let e : 8 + 8 * n ≡ 8 * suc n = omega arith in
    whole-there 8 (λ c. eights n k (drop 8 c)) b h8 ∙ eights-fit n k (drop 8 b) hn ∙ ap k (drop-drop (8 * n) 8 b ∙ ap (λ i. drop i b) e)

-- where n fields of eight bytes are not there, the first that is not begins this far from the end
abbrev pub short : List ℕ → Run
short b = record { coords = []; ending = stop Truncated (length b % 8) }

pub eights-cut : (n : ℕ) (k : Reader) (b : List ℕ) → length b < 8 * n → eights n k b ≡ short b
unfolding eights
eights-cut zero k b h = absurd (omega arith)
eights-cut (suc n) k b h =
    elim (cases_lt (length b) 8) [
      | inl lt ↦
          let e : length b ≡ length b % 8 = omega arith in
          whole-not 8 (λ c. eights n k (drop 8 c)) b lt ∙ ap (λ i. record { coords = []; ending = stop Truncated i }) e
      | inr ge ↦
          let hn : length (drop 8 b) < 8 * n = simp length-drop (omega arith) in
          let e : length (drop 8 b) % 8 ≡ length b % 8 = simp length-drop (omega arith) in
          whole-there 8 (λ c. eights n k (drop 8 c)) b ge ∙ eights-cut n k (drop 8 b) hn ∙ ap (λ i. record { coords = []; ending = stop Truncated i }) e
    ]

-- n coordinates fit or are cut as their ordinates do
pub points-fit : (o : Endian) (d : Dimension) (j : Bool) (n : ℕ) (k : Reader) (b : List ℕ) → 8 * (n * width d) ≤ length b → (points o d j n k b).ending ≡ (k (drop (8 * (n * width d)) b)).ending
unfolding points coord
points-fit o d j zero k b h = let e : 0 ≡ 8 * (0 * width d) = omega (arith, zero-mul (width d)) in ap (λ i. (k (drop i b)).ending) e
points-fit o d j (suc n) k b h =
    let m : suc n * width d ≡ width d + n * width d = omega (arith, suc-mul n (width d)) in
    let h1 : 8 * width d ≤ length b = omega arith in
    let h2 : 8 * (n * width d) ≤ length (drop (8 * width d) b) = simp length-drop (omega arith) in
    let e : 8 * width d + 8 * (n * width d) ≡ 8 * (suc n * width d) = omega arith in
    ap (λ r. r.ending) (eights-fit (width d) (λ _. give (coord_at o d j b) (points o d true n k (drop (8 * width d) b))) b h1)
    ∙ points-fit o d true n k (drop (8 * width d) b) h2
    ∙ ap (λ c. (k c).ending) (drop-drop (8 * (n * width d)) (8 * width d) b ∙ ap (λ i. drop i b) e)

pub points-cut : (o : Endian) (d : Dimension) (j : Bool) (n : ℕ) (k : Reader) (b : List ℕ) → length b < 8 * (n * width d) → (points o d j n k b).ending ≡ (short b).ending
unfolding points coord
points-cut o d j zero k b h = absurd (omega (arith, zero-mul (width d)))
points-cut o d j (suc n) k b h =
    let m : suc n * width d ≡ width d + n * width d = omega (arith, suc-mul n (width d)) in
    let rest : Reader = λ _. give (coord_at o d j b) (points o d true n k (drop (8 * width d) b)) in
    elim (cases_lt (length b) (8 * width d)) [
      | inl lt ↦ ap (λ r. r.ending) (eights-cut (width d) rest b lt)
      | inr ge ↦
          let h2 : length (drop (8 * width d) b) < 8 * (n * width d) = simp length-drop (omega arith) in
          let e : length (drop (8 * width d) b) % 8 ≡ length b % 8 = simp length-drop (omega arith) in
          ap (λ r. r.ending) (eights-fit (width d) rest b ge)
          ∙ points-cut o d true n k (drop (8 * width d) b) h2
          ∙ ap (stop Truncated) e
    ]

-- the exit of a `?` with s
pub err-stop : {A : Type 0} (P : A → Type 0) (Q : Stop → Type 0) (x : Result A Stop) (s : Stop) → IsErrAnd x (λ y. y ≡ s) → Q s → MatchResult x P Q
err-stop P Q x s e q = let p = err_from_is_err_and x e in rw (p.1, p.2) q

-- a reader that stops where it begins
fails-before : (r : Reader → Reader) (b : List ℕ) (s : Stop) (c : Cause) → s ≡ before c b → ((k : Reader) → (r k b).ending ≡ stop c (length b)) → Fails r b s
fails-before r b s c e p =
    record {
      within = omega (arith, ap (λ (z : Stop). z.left) e);
      stops = λ k. p k ∙ ap (λ (z : Stop). stop z.cause z.left) (sym e);
    }

-- n coordinates, by the answer of a skip of m ordinates
pub points-follow : (d : Dimension) (n m : ℕ) (b : List ℕ) (x : Result (Bor (List ℕ)) Stop) → m ≡ n * width d →
    MatchResult x (λ rest. (8 * m ≤ length b) × (rest.now ≡ drop (8 * m) b)) (λ s. (length b < 8 * m) × (s ≡ record { cause = Truncated; left = length b % 8 })) → PointsFollow d n b x
points-follow d n m b x e w o j =
    MatchResult-weaker x w
    (λ rest p.
    let len : length rest.now ≤ length b = omega (arith, ap length p.1, length-drop (8 * m) b) in
    let h : 8 * (n * width d) ≤ length b = omega (arith, ap (λ i. 8 * i) e, p.0) in
    (len, λ k. points-fit o d j n k b h ∙ ap (λ c. (k c).ending) (ap (λ i. drop (8 * i) b) (sym e) ∙ sym p.1)))
    (λ s p.
    let h : length b < 8 * (n * width d) = omega (arith, ap (λ i. 8 * i) e, p.0) in
    record {
      within = omega (arith, ap (λ (z : Stop). z.left) p.1);
      stops = λ k. points-cut o d j n k b h ∙ ap (λ (z : Stop). stop z.cause z.left) (sym p.1);
    })

module _ (o : Endian) (r : ℕ → Reader → Reader) (b : List ℕ) where
  pub counted-there : (n : ℕ) (b' : List ℕ) (k : Reader) → 4 ≤ length b → n ≡ u32_at o b → b' ≡ drop 4 b → counted o r k b ≡ r n k b'
  unfolding counted
  counted-there n b' k h e e' =
      whole-there 4 (λ c. r (u32_at o c) k (drop 4 c)) b h ∙ ap (λ i. r i k (drop 4 b)) (sym e) ∙ ap (r n k) (sym e')

  module _ (n : ℕ) (b' : List ℕ) (h : 4 ≤ length b) (e : n ≡ u32_at o b) (e' : b' ≡ drop 4 b) where
    pub counted-follow : (x : Result (Bor (List ℕ)) Stop) → Follows (r n) b' x → Follows (counted o r) b x
    counted-follow x w =
        MatchResult-weaker x w
        (λ rest p. (omega (arith, ap length e', length-drop 4 b, p.0), λ k. ap (λ u. u.ending) (counted-there n b' k h e e') ∙ p.1 k))
        (λ s p.
        record {
          within = omega (arith, p.within, ap length e', length-drop 4 b);
          stops = λ k. ap (λ u. u.ending) (counted-there n b' k h e e') ∙ p.stops k;
        })

  pub counted-cut : (s : Stop) → length b < 4 → s ≡ before Truncated b → Fails (counted o r) b s
  unfolding counted
  counted-cut s h e = fails-before (counted o r) b s Truncated e (λ k. ap (λ u. u.ending) (whole-not 4 (λ c. r (u32_at o c) k (drop 4 c)) b h))

-- ---- a loop of n turns that reads by r, at turn i

pub times-step : (r : Reader → Reader) (n i : ℕ) (k : Reader) (b : List ℕ) → i < n → times r (n - i) k b ≡ r (times r (n - (i + 1)) k) b
unfolding times
times-step r n i k b h = let e : n - i ≡ suc (n - (i + 1)) = omega arith in ap (λ m. times r m k b) e

pub times_none : (r : Reader → Reader) (n i : ℕ) (k : Reader) (b : List ℕ) → n ≤ i → times r (n - i) k b ≡ k b
unfolding times
times_none r n i k b h = let e : n - i ≡ 0 = omega arith in ap (λ m. times r m k b) e

-- such a loop over b stands at turn i with rest
pub record Turned (r : Reader → Reader) (n i : ℕ) (b rest : List ℕ) : Type 0 where
  pub shorter : length rest ≤ length b
  pub same : (k : Reader) → (times r (n - i) k rest).ending ≡ (times r n k b).ending

module _ (r : Reader → Reader) (n i : ℕ) (b rest : List ℕ) (t : Turned r n i b rest) where
  pub turned-more : (rest' : List ℕ) → i < n → (length rest' ≤ length rest) × Passes r rest rest' → Turned r n (i + 1) b rest'
  turned-more rest' h p =
      record {
        shorter = omega (arith, p.0, t.shorter);
        same = λ k. sym (p.1 (times r (n - (i + 1)) k)) ∙ sym (ap (λ u. u.ending) (times-step r n i k rest h)) ∙ t.same k;
      }

  pub turned-fails : (s : Stop) → i < n → Fails r rest s → Fails (times r n) b s
  turned-fails s h p =
      record {
        within = omega (arith, p.within, t.shorter);
        stops = λ k. sym (t.same k) ∙ ap (λ u. u.ending) (times-step r n i k rest h) ∙ p.stops (times r (n - (i + 1)) k);
      }

  pub turned-all : n ≤ i → (length rest ≤ length b) × Passes (times r n) b rest
  turned-all h = (t.shorter, λ k. sym (t.same k) ∙ ap (λ u. u.ending) (times_none r n i k rest h))

-- ---- headers

-- the four bytes behind the first
pub u32_list_1 : (o : Endian) (b : List ℕ) → u32_at o (get_or b 1 0 ∷ get_or b 2 0 ∷ get_or b 3 0 ∷ get_or b 4 0 ∷ []) ≡ u32_at o (drop 1 b)
u32_list_1 Big b = simp get_or-drop
u32_list_1 Little b = simp get_or-drop

-- a header that stops before b', the last bytes of b
pub stops_before : (outer : Option Code) (b b' : List ℕ) (s : Stop) (e : Cause) → length b' ≤ length b → s ≡ before e b' → ((g : Endian → Code → Reader) → header outer g b ≡ fault e b') → Unheaded outer b s
stops_before outer b b' s e le p h =
    record {
      within = omega (arith, ap (λ (z : Stop). z.left) p);
      stops = λ g. h g ∙ ap (λ (z : Stop). record { coords = []; ending = stop z.cause z.left }) (sym p);
    }

module _ (outer : Option Code) (b : List ℕ) (s : Stop) where
  pub header-empty : length b < 1 → s ≡ before Truncated b → Unheaded outer b s
  unfolding header
  header-empty h p = stops_before outer b b s Truncated (omega arith) p (λ f. rw (lt-leb 1 (length b) h))

  pub header-order : 1 ≤ length b → order_of (get_or b 0 0) ≡ None → s ≡ before ByteOrder b → Unheaded outer b s
  unfolding header
  header-order h e p = stops_before outer b b s ByteOrder (omega arith) p (λ f. rw (le-leb 1 (length b) h, e))

-- past the order byte, with b' left
module _ (outer : Option Code) (b b' : List ℕ) (o : Endian) (h : 1 ≤ length b) (e : order_of (get_or b 0 0) ≡ Some o) (r : b' ≡ drop 1 b) where
  pub header-cut : (s : Stop) → length b' < 4 → s ≡ before Truncated b' → Unheaded outer b s
  unfolding header
  header-cut s h4 p =
      let l : length (drop 1 b) < 4 = omega (arith, ap length r) in
      stops_before outer b b' s Truncated (omega (arith, ap length r, length-drop 1 b)) p
      (λ f. rw (le-leb 1 (length b) h, e, lt-leb 4 (length (drop 1 b)) l) (ap (fault Truncated) (sym r)))

  -- its code is there
  module _ (n : ℕ) (h4 : 4 ≤ length b') (en : n ≡ u32_at o b') where
    pub header-code : (s : Stop) → code_of n ≡ None → s ≡ before TypeCode b' → Unheaded outer b s
    unfolding header
    header-code s d p =
        let l : 4 ≤ length (drop 1 b) = omega (arith, ap length r) in
        let d' = ap code_of (ap (u32_at o) (sym r) ∙ sym en) ∙ d in
        stops_before outer b b' s TypeCode (omega (arith, ap length r, length-drop 1 b)) p
        (λ f. rw (le-leb 1 (length b) h, e, le-leb 4 (length (drop 1 b)) l, d') (ap (fault TypeCode) (sym r)))

    pub header-misfit : (s : Stop) (c : Code) → code_of n ≡ Some c → fits outer c ≡ false → s ≡ before PartType b' → Unheaded outer b s
    unfolding header
    header-misfit s c d g p =
        let l : 4 ≤ length (drop 1 b) = omega (arith, ap length r) in
        let d' = ap code_of (ap (u32_at o) (sym r) ∙ sym en) ∙ d in
        stops_before outer b b' s PartType (omega (arith, ap length r, length-drop 1 b)) p
        (λ f. rw (le-leb 1 (length b) h, e, le-leb 4 (length (drop 1 b)) l, d', g) (ap (fault PartType) (sym r)))

    pub header-there : (c : Code) (w : List ℕ) → code_of n ≡ Some c → fits outer c ≡ true → w ≡ drop 4 b' → (length w + 5 ≤ length b) × Headed outer b o c w × (c ≡ code_at b) × (fits outer c ≡ true)
    unfolding header
    header-there c w d g ew =
        let l : 4 ≤ length (drop 1 b) = omega (arith, ap length r) in
        let d' = ap code_of (ap (u32_at o) (sym r) ∙ sym en) ∙ d in
        let q : w ≡ drop 5 b = ew ∙ ap (drop 4) r ∙ drop-drop 4 1 b in (
          omega (arith, l, ap length q, length-drop 5 b, length-drop 1 b),
          λ f. rw (le-leb 1 (length b) h, e, le-leb 4 (length (drop 1 b)) l, d', g) (ap (f o c) (sym q)),
          sym (ap (λ x. code_in x b) e ∙ ap code_or d'),
          g,
        )

pub order_some : (n : ℕ) → n < 2 → (o : Endian) × (order_of n ≡ Some o)
order_some n h = elim (cases_eq n 0) [ inl e ↦ (Big, rw e) | inr ne ↦ let e : n ≡ 1 = omega arith in (Little, rw e) ]

pub order_none : (n : ℕ) → 2 ≤ n → order_of n ≡ None
order_none n h = let a : n ≢ 0 = omega arith in let b : n ≢ 1 = omega arith in rw (ne_eqb n 0 a, ne_eqb n 1 b)

-- ---- shapes

pub body-container : (o : Endian) (d : Dimension) (part : Reader → Reader) (q : Kind) → (q ≡ Point → ⊥) → (q ≡ Line → ⊥) → (q ≡ Polygon → ⊥) → body o d part q ≡ counted o (times part)
unfolding body
body-container o d part Point a b c = absurd (a refl)
body-container o d part Line a b c = absurd (b refl)
body-container o d part Polygon a b c = absurd (c refl)
body-container o d part MultiPoint a b c = refl
body-container o d part MultiLine a b c = refl
body-container o d part MultiPolygon a b c = refl
body-container o d part Collection a b c = refl

pub body-point : (o : Endian) (d : Dimension) (part : Reader → Reader) (q : Kind) → q ≡ Point → body o d part q ≡ points o d false 1
unfolding body
body-point o d part q e = ap (body o d part) e

pub body-line : (o : Endian) (d : Dimension) (part : Reader → Reader) (q : Kind) → q ≡ Line → body o d part q ≡ line o d
unfolding body
body-line o d part q e = ap (body o d part) e

pub body-polygon : (o : Endian) (d : Dimension) (part : Reader → Reader) (q : Kind) → q ≡ Polygon → body o d part q ≡ counted o (times (line o d))
unfolding body
body-polygon o d part q e = ap (body o d part) e

module _ (l : ℕ) (outer : Option Code) (b : List ℕ) where
  pub shape-deep : (s : Stop) → l ≡ 0 → s ≡ before TooDeep b → Fails (shape l outer) b s
  unfolding shape
  shape-deep s e p = fails-before (shape l outer) b s TooDeep p (λ k. ap (λ i. (shape i outer k b).ending) e)

  pub shape-header : 0 < l → (k : Reader) → shape l outer k b ≡ header outer (λ o c. body o c.dim (shape (l - 1) (Some c)) c.kind k) b
  unfolding shape
  shape-header h k = let e : l ≡ suc (l - 1) = omega arith in ap (λ i. shape i outer k b) e

  pub shape-unheaded : (s : Stop) → 0 < l → Unheaded outer b s → Fails (shape l outer) b s
  shape-unheaded s h u = record { within = u.within; stops = λ k. ap (λ r. r.ending) (shape-header h k ∙ u.stops (λ o c. body o c.dim (shape (l - 1) (Some c)) c.kind k)) }

  module _ (o : Endian) (c : Code) (after : List ℕ) (r : Reader → Reader) (h : 0 < l) (u : Headed outer b o c after) (e : body o c.dim (shape (l - 1) (Some c)) c.kind ≡ r) where
    pub shape_is : (k : Reader) → shape l outer k b ≡ r k after
    shape_is k = shape-header h k ∙ u (λ o c. body o c.dim (shape (l - 1) (Some c)) c.kind k) ∙ ap (λ (p : Reader → Reader). p k after) e

    shape-follow : length after + 5 ≤ length b → (x : Result (Bor (List ℕ)) Stop) → Follows r after x → Follows (shape l outer) b x
    shape-follow le x w =
        MatchResult-weaker x w
        (λ rest p. (omega (arith, p.0), λ k. ap (λ u. u.ending) (shape_is k) ∙ p.1 k))
        (λ s p. record { within = omega (arith, p.within); stops = λ k. ap (λ u. u.ending) (shape_is k) ∙ p.stops k })

  -- by kind
  module _ (o : Endian) (c : Code) (after : List ℕ) (h : 0 < l) (u : Headed outer b o c after) (le : length after + 5 ≤ length b) (x : Result (Bor (List ℕ)) Stop) where
    pub point-follow : c.kind ≡ Point → PointsFollow c.dim 1 after x → Follows (shape l outer) b x
    point-follow e w = shape-follow o c after (points o c.dim false 1) h u (body-point o c.dim (shape (l - 1) (Some c)) c.kind e) le x (w o false)

    pub line-follow : c.kind ≡ Line → Follows (line o c.dim) after x → Follows (shape l outer) b x
    line-follow e w = shape-follow o c after (line o c.dim) h u (body-line o c.dim (shape (l - 1) (Some c)) c.kind e) le x w

    pub polygon-follow : c.kind ≡ Polygon → Follows (counted o (times (line o c.dim))) after x → Follows (shape l outer) b x
    polygon-follow e w = shape-follow o c after (counted o (times (line o c.dim))) h u (body-polygon o c.dim (shape (l - 1) (Some c)) c.kind e) le x w

    pub container-follow : (c.kind ≡ Point → ⊥) → (c.kind ≡ Line → ⊥) → (c.kind ≡ Polygon → ⊥) → Follows (counted o (times (shape (l - 1) (Some c)))) after x → Follows (shape l outer) b x
    container-follow p q r w =
        let part = shape (l - 1) (Some c) in
        shape-follow o c after (counted o (times part)) h u (body-container o c.dim part c.kind p q r) le x w

-- ---- decoding

pub code-at : (b : List ℕ) (o : Endian) (c : Code) → order_of (get_or b 0 0) ≡ Some o → code_of (u32_at o (drop 1 b)) ≡ Some c → c ≡ code_at b
code-at b o c e e2 = sym (ap (λ x. code_in x b) e ∙ ap code_or e2)

module _ (b : List ℕ) where
  pub decode-fails : (s : Stop) → Fails (shape levels None) b s → decode b ≡ refused (placed (length b) s.cause s.left)
  decode-fails s p = ap (λ e. decoded (length b) e (code_at b) (coords_in b)) (p.stops finish)

  ended-trails : (t : ℕ) (c : Code) (cs : List Coord) (rest : List ℕ) → 0 < length rest → decoded t (ended rest) c cs ≡ refused (placed t TrailingBytes (length rest))
  ended-trails t c cs [] h = absurd (omega arith)
  ended-trails t c cs (x ∷ xs) h = refl

  ended-read : (t : ℕ) (c : Code) (cs : List Coord) (rest : List ℕ) → length rest ≡ 0 → decoded t (ended rest) c cs ≡ read c cs
  ended-read t c cs [] h = refl
  ended-read t c cs (x ∷ xs) h = absurd (omega arith)

  pub decode-trails : (rest : List ℕ) (f : Fault) → Passes (shape levels None) b rest → 0 < length rest → f ≡ placed (length b) TrailingBytes (length rest) → decode b ≡ refused f
  decode-trails rest f p h e = ap (λ e. decoded (length b) e (code_at b) (coords_in b)) (p finish) ∙ ended-trails (length b) (code_at b) (coords_in b) rest h ∙ ap refused (sym e)

  pub decode-read : (rest : List ℕ) → Passes (shape levels None) b rest → length rest ≡ 0 → decode b ≡ read (code_at b) (coords_in b)
  decode-read rest p h = ap (λ e. decoded (length b) e (code_at b) (coords_in b)) (p finish) ∙ ended-read (length b) (code_at b) (coords_in b) rest h

  decoded-is : (t : ℕ) (v : Ending) (c c' : Code) (cs cs' : List Coord) → decoded t v c cs ≡ read c' cs' → (c ≡ c') × (cs ≡ cs')
  decoded-is t (stop f n) c c' cs cs' h = let z : ◌≡◌ {A = ℕ} 0 1 = cc in absurd (omega arith)
  decoded-is t (ended []) c c' cs cs' h = let p : c ≡ c' = cc in let q : cs ≡ cs' = cc in (p, q)
  decoded-is t (ended (x ∷ xs)) c c' cs cs' h = let z : ◌≡◌ {A = ℕ} 0 1 = cc in absurd (omega arith)

  pub decode_is : (c : Code) (cs : List Coord) → decode b ≡ read c cs → (code_at b ≡ c) × (coords_in b ≡ cs)
  decode_is c cs h = decoded-is (length b) (run_of b).ending (code_at b) c (coords_in b) cs h
