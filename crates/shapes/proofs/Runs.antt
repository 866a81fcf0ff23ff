-- The hulls of a run by its columns, and the run that a cursor takes at once.
use Rattle.std.proofs.Common.{◌≡◌, ℕ, zero, suc, ◌+◌, ◌-◌, ◌*◌, ◌<◌, ◌≤◌, Bool, true, ◌≢◌, List, ◌∷◌, ◌++◌, length, get_or, drop, set, sym, refl, ap, ◌∙◌, subst, ap₂, inl, inr, suc-mul, add_comm, zero-mul, arith, lit≤, length-drop, get_or-set_other, get_or-set_same}
use lib.Ieee.{Float, nan}
use Rattle.std.proofs.lemmas.List.{drop-drop}
use Rattle.std.proofs.lemmas.Bool.{cases_lt}
use Rattle.std.specs.List.{AllByRecursion}
use Rattle.std.specs.Simd.{first_chunks}
use Rattle.interval.specs.Pairs.{Pair, nothing}
use Rattle.interval.specs.Ordinary.{with_value}
use Rattle.shapes.specs.declared.endian.Endian.{Endian}
use Rattle.shapes.specs.declared.code.Dimension.{Dimension}
use Rattle.shapes.specs.declared.code.Dimension.TheVariants.{Xy, Xyz, Xym, Xyzm}
use Rattle.shapes.specs.declared.code.Kind.{Kind}
use Rattle.shapes.specs.declared.coord.Coord.{Coord}
use Rattle.shapes.specs.Codes.{width}
use Rattle.shapes.specs.Columns.{run, column, column_of}
use Rattle.shapes.specs.Hulls.{Four, none, with, with_all}
use Rattle.shapes.specs.Numbers.{f64_at, coord_at}
use Rattle.shapes.specs.Pending.{pending, parts}
use Rattle.shapes.specs.Steps.{Fresh}
use Rattle.shapes.specs.Wkb.{Reader, points, line, times}
use Rattle.shapes.proofs.Cursors.{coord-there, coord-cut, points_none, parts-set, pending-at}
use Rattle.shapes.proofs.Spans.{nan-value, column-is}
use Rattle.shapes.proofs.Starts.{joins_is, rings_start}

-- ---- hulls by columns

-- an axis s of the hulls, whose ordinate in a coordinate is f
abbrev Picks : (Four → Pair) → (Coord → Float) → Type 0
Picks s f = (h : Four) (c : Coord) → s (with h c) ≡ with_value (s h) (f c)

module _ (s : Four → Pair) (f : Coord → Float) (p : Picks s f) (o : Endian) (d : Dimension) where
  by_column : (at : ℕ) → ((j : Bool) (b : List ℕ) → f (coord_at o d j b) ≡ f64_at o (drop at b)) → (n : ℕ) (j : Bool) (b : List ℕ) (h : Four) → s (with_all h (run o d j n b)) ≡ column o at (8 * width d) n b (s h)
  unfolding with_all run column
  by_column at e zero j b h = refl
  by_column at e (suc n) j b h =
      by_column at e n true (drop (8 * width d) b) (with h (coord_at o d j b))
      ∙ ap (column o at (8 * width d) n (drop (8 * width d) b)) (p h (coord_at o d j b) ∙ ap (with_value (s h)) (e j b))

  -- an axis that was read from points of so many bytes
  by_points : s none ≡ nothing → (at : ℕ) → ((j : Bool) (b : List ℕ) → f (coord_at o d j b) ≡ f64_at o (drop at b)) → at + 8 ≤ 8 * width d → (n : ℕ) (j : Bool) (b : List ℕ) (ps : List (List ℕ)) (x : Pair) → ps ≡ first_chunks (8 * width d) n b → x ≡ column_of o at ps →
      x ≡ s (with_all none (run o d j n b))
  by_points z at e h n j b ps x cut r = r ∙ ap (column_of o at) cut ∙ column-is o at (8 * width d) n b nothing h ∙ ap (column o at (8 * width d) n b) (sym z) ∙ sym (by_column at e n j b none)

  -- an axis that the dimension lacks
  by_none : ((j : Bool) (b : List ℕ) → f (coord_at o d j b) ≡ nan) → (n : ℕ) (j : Bool) (b : List ℕ) (h : Four) → s (with_all h (run o d j n b)) ≡ s h
  unfolding with_all run
  by_none e zero j b h = refl
  by_none e (suc n) j b h =
      by_none e n true (drop (8 * width d) b) (with h (coord_at o d j b)) ∙ p h (coord_at o d j b) ∙ ap (with_value (s h)) (e j b) ∙ nan-value (s h)

abbrev on-x : Four → Pair
on-x h = h.x

abbrev on-y : Four → Pair
on-y h = h.y

abbrev on-z : Four → Pair
on-z h = h.z

abbrev on-m : Four → Pair
on-m h = h.m

pub same-four : {x x' y y' z z' m m' : Pair} → x ≡ x' → y ≡ y' → z ≡ z' → m ≡ m' → ◌≡◌ {A = Four} (record { x = x; y = y; z = z; m = m }) (record { x = x'; y = y'; z = z'; m = m' })
same-four p q r s = λ i. record { x = p i; y = q i; z = r i; m = s i }

module _ (o : Endian) (n : ℕ) (b : List ℕ) (ps : List (List ℕ)) (x y z m : Pair) (j : Bool) where
  pub hulls-xy : ps ≡ first_chunks 16 n b → x ≡ column_of o 0 ps → y ≡ column_of o 8 ps → z ≡ nothing → m ≡ nothing → ◌≡◌ {A = Four} (record { x = x; y = y; z = z; m = m }) (with_all none (run o Xy j n b))
  hulls-xy e p q r s = same-four
      (by_points on-x (λ c. c.x) (λ h c. refl) o Xy refl 0 (λ j b. refl) (lit≤ tt) n j b ps x e p) (by_points on-y (λ c. c.y) (λ h c. refl) o Xy refl 8 (λ j b. refl) (lit≤ tt) n j b ps y e q)
      (r ∙ sym (by_none on-z (λ c. c.z) (λ h c. refl) o Xy (λ j b. refl) n j b none)) (s ∙ sym (by_none on-m (λ c. c.m) (λ h c. refl) o Xy (λ j b. refl) n j b none))

  pub hulls-xyz : ps ≡ first_chunks 24 n b → x ≡ column_of o 0 ps → y ≡ column_of o 8 ps → z ≡ column_of o 16 ps → m ≡ nothing → ◌≡◌ {A = Four} (record { x = x; y = y; z = z; m = m }) (with_all none (run o Xyz j n b))
  hulls-xyz e p q r s = same-four
      (by_points on-x (λ c. c.x) (λ h c. refl) o Xyz refl 0 (λ j b. refl) (lit≤ tt) n j b ps x e p) (by_points on-y (λ c. c.y) (λ h c. refl) o Xyz refl 8 (λ j b. refl) (lit≤ tt) n j b ps y e q)
      (by_points on-z (λ c. c.z) (λ h c. refl) o Xyz refl 16 (λ j b. refl) (lit≤ tt) n j b ps z e r) (s ∙ sym (by_none on-m (λ c. c.m) (λ h c. refl) o Xyz (λ j b. refl) n j b none))

  pub hulls-xym : ps ≡ first_chunks 24 n b → x ≡ column_of o 0 ps → y ≡ column_of o 8 ps → z ≡ nothing → m ≡ column_of o 16 ps → ◌≡◌ {A = Four} (record { x = x; y = y; z = z; m = m }) (with_all none (run o Xym j n b))
  hulls-xym e p q r s = same-four
      (by_points on-x (λ c. c.x) (λ h c. refl) o Xym refl 0 (λ j b. refl) (lit≤ tt) n j b ps x e p) (by_points on-y (λ c. c.y) (λ h c. refl) o Xym refl 8 (λ j b. refl) (lit≤ tt) n j b ps y e q)
      (r ∙ sym (by_none on-z (λ c. c.z) (λ h c. refl) o Xym (λ j b. refl) n j b none)) (by_points on-m (λ c. c.m) (λ h c. refl) o Xym refl 16 (λ j b. refl) (lit≤ tt) n j b ps m e s)

  pub hulls-xyzm : ps ≡ first_chunks 32 n b → x ≡ column_of o 0 ps → y ≡ column_of o 8 ps → z ≡ column_of o 16 ps → m ≡ column_of o 24 ps → ◌≡◌ {A = Four} (record { x = x; y = y; z = z; m = m }) (with_all none (run o Xyzm j n b))
  hulls-xyzm e p q r s = same-four
      (by_points on-x (λ c. c.x) (λ h c. refl) o Xyzm refl 0 (λ j b. refl) (lit≤ tt) n j b ps x e p) (by_points on-y (λ c. c.y) (λ h c. refl) o Xyzm refl 8 (λ j b. refl) (lit≤ tt) n j b ps y e q)
      (by_points on-z (λ c. c.z) (λ h c. refl) o Xyzm refl 16 (λ j b. refl) (lit≤ tt) n j b ps z e r) (by_points on-m (λ c. c.m) (λ h c. refl) o Xyzm refl 24 (λ j b. refl) (lit≤ tt) n j b ps m e s)

-- ---- the run that is taken

pub run-joined : (o : Endian) (d : Dimension) (n : ℕ) (b : List ℕ) → AllByRecursion (λ c. c.joins ≡ true) (run o d true n b)
unfolding run
run-joined o d zero b = tt
run-joined o d (suc n) b = (joins_is o d true b, run-joined o d n (drop (8 * width d) b))

pub run-first : (o : Endian) (d : Dimension) (j : Bool) (n : ℕ) (b : List ℕ) → 0 < n → run o d j n b ≡ coord_at o d j b ∷ run o d true (n - 1) (drop (8 * width d) b)
unfolding run
run-first o d j zero b h = absurd (omega arith)
run-first o d j (suc n) b h = let e : n ≡ suc n - 1 = omega arith in ap (λ (k : ℕ). coord_at o d j b ∷ run o d true k (drop (8 * width d) b)) e

-- k of n points that join
reads : (o : Endian) (d : Dimension) (k n : ℕ) (K : Reader) (b : List ℕ) → k ≤ n → k * (8 * width d) ≤ length b → (points o d true n K b).coords ≡ run o d true k b ++ (points o d true (n - k) K (drop (k * (8 * width d)) b)).coords
unfolding run
reads o d zero n K b le h =
    let e : n ≡ n - 0 = omega arith in
    ap₂ (λ (m i : ℕ). (points o d true m K (drop i b)).coords) e (sym (zero-mul (8 * width d)))
reads o d (suc k) n K b le h =
    let w = 8 * width d in
    let zn : 0 < n = omega arith in
    let one : w ≤ length b = omega (arith, suc-mul k w) in
    let s : k * w ≤ length (drop w b) = rw length-drop (omega (arith, suc-mul k w)) in
    let le' : k ≤ n - 1 = omega arith in
    let f : n - 1 - k ≡ n - suc k = omega arith in
    coord-there o d true n K b zn one
    ∙ ap (λ (l : List Coord). coord_at o d true b ∷ l) (reads o d k (n - 1) K (drop w b) le' s)
    ∙ ap₂ (λ (m : ℕ) (l : List ℕ). coord_at o d true b ∷ (run o d true k (drop w b) ++ (points o d true m K l).coords)) f (drop-drop (k * w) w b ∙ ap (λ (m : ℕ). drop m b) (add_comm w (k * w) ∙ sym (suc-mul k w)))

module _ (o : Endian) (d : Dimension) (q : Kind) (counts : List ℕ) (depth k : ℕ) (rest : List ℕ) (l : length counts ≡ 33) (le : depth ≤ 31) (few : k ≤ get_or counts 32 0) where
  abbrev K : Reader
  K = times (line o d) (get_or counts 31 0) (parts d q counts depth)

  -- what is to come once k points are taken
  left_over : (pending o d true q (set counts 32 (get_or counts 32 0 - k)) depth rest).coords ≡ (points o d true (get_or counts 32 0 - k) K rest).coords
  left_over =
      let n = get_or counts 32 0 - k in
      let h32 : 32 < length counts = omega arith in
      let ne : ◌≢◌ {A = ℕ} 31 32 = omega arith in
      let le2 : depth ≤ 32 = omega arith in
      ap (λ r. r.coords) (pending-at o d true q (set counts 32 n) depth rest n (get_or counts 31 0) (parts d q counts depth) (get_or-set_same counts 32 n 0 h32) (get_or-set_other counts 32 31 n 0 ne) (parts-set d q counts depth 32 n le2))

  pub give-run : (j : Bool) (b : List ℕ) → 0 < k → k * (8 * width d) ≤ length b → rest ≡ drop (k * (8 * width d)) b →
      (pending o d j q counts depth b).coords ≡ coord_at o d j b ∷ (run o d true (k - 1) (drop (8 * width d) b) ++ (pending o d true q (set counts 32 (get_or counts 32 0 - k)) depth rest).coords)
  give-run j b some there r =
      let w = 8 * width d in
      let n = get_or counts 32 0 in
      let zn : 0 < n = omega arith in
      let g : k ≡ suc (k - 1) = omega arith in
      let more : suc (k - 1) * w ≤ length b = subst (λ (m : ℕ). m * w ≤ length b) g there in
      let one : w ≤ length b = omega (arith, suc-mul (k - 1) w) in
      let s : (k - 1) * w ≤ length (drop w b) = rw length-drop (omega (arith, suc-mul (k - 1) w)) in
      let le' : k - 1 ≤ n - 1 = omega arith in
      let f : n - 1 - (k - 1) ≡ n - k = omega arith in
      coord-there o d j n K b zn one
      ∙ ap (λ (m : List Coord). coord_at o d j b ∷ m) (reads o d (k - 1) (n - 1) K (drop w b) le' s
      ∙ ap₂ (λ (m : ℕ) (i : List ℕ). run o d true (k - 1) (drop w b) ++ (points o d true m K i).coords) f
      (drop-drop ((k - 1) * w) w b ∙ ap (λ (m : ℕ). drop m b) (add_comm w ((k - 1) * w) ∙ sym (suc-mul (k - 1) w) ∙ ap (λ (m : ℕ). m * w) (sym g)) ∙ sym r)
      ∙ ap (λ (m : List Coord). run o d true (k - 1) (drop w b) ++ m) (sym left_over))

  -- the next coordinate joins nothing: the run is over, or its next point is cut
  pub run-over : (k < get_or counts 32 0 → length rest < 8 * width d) → Fresh (pending o d true q (set counts 32 (get_or counts 32 0 - k)) depth rest).coords
  run-over cut =
      elim (cases_lt k (get_or counts 32 0)) [
        | inl lt ↦
            let h : 0 < get_or counts 32 0 - k = omega arith in
            subst Fresh (sym (left_over ∙ coord-cut o d true (get_or counts 32 0 - k) K rest h (cut lt))) tt
        | inr ge ↦
            let e : get_or counts 32 0 - k ≡ 0 = omega arith in
            subst Fresh (sym (left_over ∙ ap (λ r. r.coords) (points_none o d true (get_or counts 32 0 - k) K rest e))) (rings_start o d (get_or counts 31 0) q counts depth rest)
      ]
