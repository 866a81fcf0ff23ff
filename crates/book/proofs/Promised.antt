-- The two promises, of every standing whose ordinates an f64 holds.
use Rattle.std.proofs.Common.{◌≡◌, ℕ, zero, suc, T, List, [], ◌∷◌, get_or, Some, None, Ok, Option, sym, refl, subst, inl, inr, arith}
use mathlib.Core.List.Memᴰ
use mathlib.Core.List.{Memᴰ}
use lib.Ieee.{Float}
use Rattle.std.proofs.lemmas.List.{get_or_past}
use Rattle.interval.specs.Laws.{Set}
use Rattle.interval.specs.Pairs.{Pair, between}
use Rattle.interval.proofs.Between.{none}
use Rattle.shapes.specs.Source.{Shape}
use Rattle.bounding.specs.Runs.{Run, Axis, hull, runs_of, xs, ys, zs, ms}
use Rattle.bounding.specs.Record.{record_of}
use Rattle.bounding.specs.Told.{Told, told}
use Rattle.bounding.specs.Laws.{HasValue, Covers, CoversAll, HeldShapes, HeldEnds, AlikeTold, together}
use Rattle.bounding.proofs.Gathers.{merges_pages}
use Rattle.bounding.proofs.Covers.{hull-none, run-find, tells-covering}
use Rattle.bounding.proofs.Ordinates.{keeps-held}
use Rattle.bounding.proofs.Alikes.{tells-members}
use Rattle.book.specs.declared.states.Target.{Target}
use Rattle.book.specs.declared.states.Target.TheVariants.{Page, Column}
use Rattle.book.specs.Standing.{Standing}
use Rattle.book.specs.Windows.{HullMeets, IfAsked, Shares}
use Rattle.book.specs.Promises.{on, record_at, tells, SkippedHoldsNoMeetingRun, ColumnIgnoresOrderAndCopies}

-- ---- what is told of a target is told of its shapes
pub record-on : (hint : Pair) (s : Standing) (g : Target) → record_at hint s g ≡ record_of hint (on s g)
record-on hint s (Page n) = refl
record-on hint s Column = merges_pages hint s.pages

pub told-on : (hint : Pair) (s : Standing) (g : Target) (t : Told) → tells hint s g ≡ Ok t → t ≡ told hint (record_of hint (on s g))
told-on hint s (Page n) t e = grind arith
told-on hint s Column t e = let h = record-on hint s Column in cc

-- a page's shapes stand on the column
page_in : (n : ℕ) (ps : List (List Shape)) (x : Shape) → Memᴰ x (get_or ps n []) → Memᴰ x (together ps)
unfolding together
page_in n [] x m = absurd (elim (subst (λ (l : List Shape). Memᴰ x l) (get_or_past [] n [] (omega arith)) m) [ ])
page_in zero (p ∷ ps) x m = Memᴰ.append_left (together ps) m
page_in (suc n) (p ∷ ps) x m = Memᴰ.append_right p (page_in n ps x m)

pub held_on : (s : Standing) (g : Target) → HeldShapes (together s.pages) → HeldShapes (on s g)
held_on s (Page n) h = λ x m. h x (page_in n s.pages x m)
held_on s Column h = h

-- ---- one axis
has_value : (f : Axis) (r : Run) (v : Float) → T (between (hull f r) v) → HasValue f r
has_value f r v b = elim (run-find f r) [ inl n ↦ absurd (subst T (none v) (subst (λ (e : Pair). T (between e v)) (hull-none f r n) b)) | inr h ↦ h ]

shares : (f : Axis) (rs : List Run) (o : Option Pair) → Covers f rs o → (r : Run) → Memᴰ r rs → (s : Set) → HullMeets f r s → Shares o s
shares f rs None c r m s (v, V, b, k) = c r m (has_value f r v b)
shares f rs (Some e) c r m s (v, V, b, k) = (v, V, c.1 r m v b, k)

shares_asked : (f : Axis) (rs : List Run) (o : Option Pair) → Covers f rs o → (r : Run) → Memᴰ r rs → (s : Option Set) → IfAsked (HullMeets f r) s → IfAsked (Shares o) s
shares_asked f rs o c r m None h = tt
shares_asked f rs o c r m (Some s) h = shares f rs o c r m s h

-- ---- the promises
pub skips-soundly : (hint : Pair) (s : Standing) → HeldShapes (together s.pages) → SkippedHoldsNoMeetingRun hint s
skips-soundly hint s held w g t e apart r m meets =
    let ss = on s g in
    let c : CoversAll (runs_of ss) t = subst (CoversAll (runs_of ss)) (sym (told-on hint s g t e)) (tells-covering hint ss (keeps-held hint ss (held_on s g held))) in
    apart (record {
      x = shares xs (runs_of ss) t.x c.x r m w.x meets.x;
      y = shares ys (runs_of ss) t.y c.y r m w.y meets.y;
      z = shares_asked zs (runs_of ss) t.z c.z r m w.z meets.z;
      m = shares_asked ms (runs_of ss) t.m c.m r m w.m meets.m;
    })

pub tells-truly : (hint : Pair) (s : Standing) → HeldEnds hint → HeldShapes (together s.pages) → ColumnIgnoresOrderAndCopies hint s
tells-truly hint s H held t e ss same =
    subst (λ (u : Told). AlikeTold u (told hint (record_of hint ss))) (sym (told-on hint s Column t e)) (tells-members hint (together s.pages) ss H held same)
