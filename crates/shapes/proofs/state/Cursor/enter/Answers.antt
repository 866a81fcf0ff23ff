use Rattle.std.proofs.Common.{◌≡◌, ℕ, false, ◌-◌, ◌<◌, ◌≤◌, List, length, drop, Some, sym, refl, ap, ◌∙◌, inl, inr, arith, length-drop, rules}
use Rattle.std.specs.Borrow.{Bor}
use Rattle.shapes.specs.declared.code.Kind.{Kind}
use Rattle.shapes.specs.declared.code.Kind.TheVariants.{Point, Line}
use Rattle.shapes.specs.declared.endian.Endian.{Endian}
use Rattle.shapes.specs.declared.state.Cursor.{Cursor}
use Rattle.shapes.specs.Numbers.{u32_at}
use Rattle.shapes.specs.Wkb.{Reader, points, times, counted, line, body, shape}
use Rattle.shapes.specs.Pending.{parts, still}
use Rattle.shapes.specs.Steps.{entered}
use Rattle.shapes.proofs.Coding.{coded, only-collection}
use Rattle.shapes.proofs.Reading.{counted-there, body-point, body-line, body-polygon, body-container}
use Rattle.shapes.proofs.Cursors.{kept, lost, pending-parts, begin_points, begin_rings, begin_parts, body-short, too_deep, times_zero}
use Rattle.shapes.proofs.state.Cursor.enter.Goals as goal
use Rattle.shapes.proofs.state.Cursor.enter.Goals.{in-Point, in_default+in_ok-n-in_default}

-- n is the count at the start, and rest what follows it
abbrev Counted : Endian → List ℕ → ℕ → List ℕ → Type 0
Counted o after n rest = (4 ≤ length after) × (n ≡ u32_at o after) × (rest ≡ drop 4 after)

module _ (s : Cursor) (o : Endian) (q : Kind) (after : List ℕ) where
  abbrev others : Reader
  others = parts s.code.dim s.inner s.counts s.depth

  abbrev part : Reader → Reader
  part = shape (31 - s.depth) (Some (coded q s.code.dim))

  -- the coordinate of a point
  point-entered : q ≡ Point → entered s o q after ≡ (points o s.code.dim false 1 others after).coords
  unfolding entered
  point-entered e = ap (λ (f : Reader → Reader). (f others after).coords) (body-point o s.code.dim part q e)

  -- the coordinates of a shape that begins with a count
  counted-entered : (r : ℕ → Reader → Reader) (n : ℕ) (rest : List ℕ) → body o s.code.dim part q ≡ counted o r → Counted o after n rest → entered s o q after ≡ (r n others rest).coords
  unfolding entered
  counted-entered r n rest e z = ap (λ r. r.coords) (ap (λ (f : Reader → Reader). f others after) e ∙ counted-there o r after n rest others z.0 z.1 z.2)

pub returns-in-Point-kind : goal.returns-in-Point-kind
unfolding still
returns-in-Point-kind c =
    let s = c.args.self.now in
    let o = c.args.order in
    let q = c.args.kind in
    let l : length s.counts ≡ 33 = search rules in
    let b = ap (λ r. r.coords) (begin_points o s.code.dim s.inner s.counts s.depth l s.shallow c.requires.between.rings c.requires.between.points c.match-kind.n.0 c.match-kind.n.1.now) in
    elim c.match-kind.branch [
      | in-Point w ↦
          let m : length c.match-kind.n.1.now ≡ length c.args.after.now = ap (λ (m : ℕ × Bor (List ℕ)). length m.1.now) w.n-is in
          record {
            same =
                b ∙ ap (λ (m : ℕ × Bor (List ℕ)). (points o s.code.dim false m.0 (others s o q c.args.after.now) m.1.now).coords) w.n-is
                ∙ sym (point-entered s o q c.args.after.now w.in-Point.is);
            less = omega arith;
            shorter = omega arith;
            code = refl;
          }
      | in_default+in_ok-n-in_default w ↦
          let z = kept w.count.result _ _ c.match-kind.n (sym w.ok.ensures.value ∙ w.in_ok-n-in_default.was ∙ ap Some (sym w.n-is)) w.count.ensures in
          let e : q ≡ Line = elim c.in-Point-kind.is [ inl p ↦ absurd (w.in_default.not-Point p) | inr p ↦ p ] in
          record {
            same = b ∙ sym (counted-entered s o q c.args.after.now (points o s.code.dim false) c.match-kind.n.0 c.match-kind.n.1.now (body-line o s.code.dim (part s o q c.args.after.now) q e) z);
            less = omega (arith, z.0, ap length z.2, length-drop 4 c.args.after.now);
            shorter = omega (arith, z.0, ap length z.2, length-drop 4 c.args.after.now);
            code = refl;
          }
    ]

pub returns-in-Polygon : goal.returns-in-Polygon
unfolding still
returns-in-Polygon c =
    let s = c.args.self.now in
    let o = c.args.order in
    let q = c.args.kind in
    let l : length s.counts ≡ 33 = search rules in
    let z : Counted o c.args.after.now c.match-kind.n.0 c.match-kind.n.1.now =
    elim c.match-kind.branch [ in-Point w ↦ absurd (let e = sym w.in-Point.is ∙ c.in-Polygon.is in cc) | in_default+in_ok-n-in_default w ↦ kept w.count.result _ _ c.match-kind.n (sym w.ok.ensures.value ∙ w.in_ok-n-in_default.was ∙ ap Some (sym w.n-is)) w.count.ensures ] in
    record {
      same =
          ap (λ r. r.coords) (begin_rings o s.code.dim s.inner s.counts s.depth l s.shallow c.requires.between.rings c.requires.between.points s.joins c.match-kind.n.0 c.match-kind.n.1.now)
          ∙ sym (counted-entered s o q c.args.after.now (times (line o s.code.dim)) c.match-kind.n.0 c.match-kind.n.1.now (body-polygon o s.code.dim (part s o q c.args.after.now) q c.in-Polygon.is) z);
      less = omega (arith, z.0, ap length z.2, length-drop 4 c.args.after.now);
      shorter = omega (arith, z.0, ap length z.2, length-drop 4 c.args.after.now);
      code = refl;
    }

pub returns-in_default-kind : goal.returns-in_default-kind
unfolding still
returns-in_default-kind c =
    let s = c.args.self.now in
    let o = c.args.order in
    let q = c.args.kind in
    let p = part s o q c.args.after.now in
    let w = c.in_default-kind in
    let z : Counted o c.args.after.now c.match-kind.n.0 c.match-kind.n.1.now =
    elim c.match-kind.branch [ in-Point w ↦ absurd (c.in_default-kind.not-Point w.in-Point.is) | in_default+in_ok-n-in_default w ↦ kept w.count.result _ _ c.match-kind.n (sym w.ok.ensures.value ∙ w.in_ok-n-in_default.was ∙ ap Some (sym w.n-is)) w.count.ensures ] in
    record {
      same =
          ap (λ r. r.coords)
          (pending-parts s.order s.code.dim s.joins s.inner s.counts s.depth c.match-kind.n.1.now c.requires.between.rings c.requires.between.points
          ∙ sym (times_zero p c.match-kind.n.0 (others s o q c.args.after.now) c.match-kind.n.1.now c.if-n-eq0.true))
          ∙ sym (counted-entered s o q c.args.after.now (times p) c.match-kind.n.0 c.match-kind.n.1.now (body-container o s.code.dim p q w.not-Point w.not-Line w.not-Polygon) z);
      less = omega (arith, z.0, ap length z.2, length-drop 4 c.args.after.now);
      shorter = omega (arith, z.0, ap length z.2, length-drop 4 c.args.after.now);
      code = refl;
    }

pub returns-in_default-2 : goal.returns-in_default-2
unfolding still
returns-in_default-2 c =
    let s = c.args.self.now in
    let o = c.args.order in
    let q = c.args.kind in
    let p = part s o q c.args.after.now in
    let w = c.in_default-kind in
    let l : length s.counts ≡ 33 = search rules in
    let z : Counted o c.args.after.now c.match-kind.n.0 c.match-kind.n.1.now =
    elim c.match-kind.branch [ in-Point w ↦ absurd (c.in_default-kind.not-Point w.in-Point.is) | in_default+in_ok-n-in_default w ↦ kept w.count.result _ _ c.match-kind.n (sym w.ok.ensures.value ∙ w.in_ok-n-in_default.was ∙ ap Some (sym w.n-is)) w.count.ensures ] in
    record {
      same =
          ap (λ r. r.coords)
          (begin_parts s.order s.code.dim s.inner s.counts s.depth l s.shallow c.requires.between.rings c.requires.between.points s.joins q c.match-kind.n.0 c.match-kind.n.1.now c.if-self-lt-RINGS.true
          (λ h. only-collection s.inner q (c.requires.fitting h) w.not-Point w.not-Line w.not-Polygon))
          ∙ sym (counted-entered s o q c.args.after.now (times p) c.match-kind.n.0 c.match-kind.n.1.now (body-container o s.code.dim p q w.not-Point w.not-Line w.not-Polygon) z);
      less = omega (arith, z.0, ap length z.2, length-drop 4 c.args.after.now);
      shorter = omega (arith, z.0, ap length z.2, length-drop 4 c.args.after.now);
      code = refl;
    }

pub returns-in_default-3 : goal.returns-in_default-3
unfolding still
returns-in_default-3 c =
    let s = c.args.self.now in
    let o = c.args.order in
    let q = c.args.kind in
    let p = part s o q c.args.after.now in
    let w = c.in_default-kind in
    let none : 31 - s.depth ≡ 0 = omega (arith, c.if-self-lt-RINGS.false) in
    let h : 0 < c.match-kind.n.0 = omega (arith, c.if-n-eq0.false) in
    let z : Counted o c.args.after.now c.match-kind.n.0 c.match-kind.n.1.now =
    elim c.match-kind.branch [ in-Point w ↦ absurd (c.in_default-kind.not-Point w.in-Point.is) | in_default+in_ok-n-in_default w ↦ kept w.count.result _ _ c.match-kind.n (sym w.ok.ensures.value ∙ w.in_ok-n-in_default.was ∙ ap Some (sym w.n-is)) w.count.ensures ] in (
      counted-entered s o q c.args.after.now (times p) c.match-kind.n.0 c.match-kind.n.1.now (body-container o s.code.dim p q w.not-Point w.not-Line w.not-Polygon) z
          ∙ too_deep (31 - s.depth) (coded q s.code.dim) c.match-kind.n.0 (others s o q c.args.after.now) c.match-kind.n.1.now none h,
      refl,
    )

pub returns-in_err-n-in_default : goal.returns-in_err-n-in_default
unfolding entered
returns-in_err-n-in_default c =
    let s = c.args.self.now in
    let q = c.args.kind in
    let z = lost c.count.result _ _ (sym c.ok.ensures.value ∙ c.in_err-n-in_default.was) c.count.ensures in
    rw c.from_residual.ensures (body-short c.args.order s.code.dim (part s c.args.order q c.args.after.now) q (others s c.args.order q c.args.after.now) c.args.after.now c.in_default.not-Point z.1.0, refl)
