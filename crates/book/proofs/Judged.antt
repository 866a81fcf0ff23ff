-- The parts of a verdict, put together.
use Rattle.std.proofs.Common.{◌≡◌, Bool, true, false, cond, not, ◌&&◌, T, List, MatchOption, Some, None, Ok, Err, Option, Result, sym, refl, ap, ◌∙◌, subst, arith}
use lib.Ieee.{Float, le, is_nan}
use Rattle.number.specs.Values.{Held}
use Rattle.interval.specs.declared.fault.Fault.{Fault}
use Rattle.interval.specs.declared.kinds.Interval.{Interval}
use Rattle.std.proofs.lemmas.Float.{le_refl, le_left}
use Rattle.number.proofs.Plain.{lt-is_not_le}
use Rattle.interval.specs.Laws.{Set, Inhabited, Common, Equal, Meets, refusal}
use Rattle.interval.specs.Pairs.{Pair, ends, between, stored, empty}
use Rattle.shapes.specs.Source.{Shape}
use Rattle.bounding.specs.Runs.{Run, Axis, runs_of, gather, ys, zs, ms}
use Rattle.bounding.specs.Record.{record_of, every}
use Rattle.bounding.specs.Told.{Told, told, shown}
use Rattle.bounding.specs.Walk.{optional}
use Rattle.bounding.proofs.Takes.{gather-upright}
use Rattle.book.specs.declared.states.Target.{Target}
use Rattle.book.specs.declared.states.Target.TheVariants.{Column}
use Rattle.book.specs.declared.states.Verdict.{Verdict}
use Rattle.book.specs.declared.states.Verdict.TheVariants.{Skip, Keep}
use Rattle.book.specs.declared.held.Book.{Book}
use Rattle.book.specs.Standing.{Call, standing}
use Rattle.book.specs.Promises.{tells}
use Rattle.book.specs.Keeping.{KeptBy, SkippedSoundly, size, hint_of}
use Rattle.book.proofs.Promised.{skips-soundly}
use Rattle.book.specs.Windows.{Frame, Firm, IfAsked, Shares, SharesAll, Decides, Tested, TestedX, Sifted, placed, optional_set}
use Rattle.book.specs.Verdicts.{SharesIf, AskedIf, Upright, UprightIf, pair_of, optional_pair, refused_if}

-- a stored pair of numbers covers its lower end
pub stored-lower : (e : Pair) → Held e.lo → T (not (is_nan e.lo)) → Inhabited (stored e)
stored-lower e h n = (e.lo, (h, n), let l = le_refl e.lo n in grind arith)

-- ---- one axis
pub taken_shares : (covered s : Set) (e : Pair) (r : Bool) → Held e.lo → T (not (is_nan e.lo)) → Equal covered (stored e) → Meets covered s r → (T r → Inhabited s → Common (stored e) s) × (Common (stored e) s → T r)
taken_shares covered s e r h n eq m = (
  (λ t i.
      let (w, W, k) = stored-lower e h n in
      let (v, V, p, q) = m.only t (w, W, subst T (sym (eq w W)) k) i in
      (v, V, subst T (eq v V) p, q)),
  λ (v, V, p, q). m.always (v, V, subst T (sym (eq v V)) p, q),
)

-- ordinary ends that go up cover what Parquet gives their pair
pub told-shares : (e : Pair) (s : Set) (r : Bool) → Held e.lo → Meets (between e) s r → SharesIf (Some e) s r
told-shares e s r h m up = taken_shares (between e) s e r h (le_left e.lo e.hi up) (λ v V. grind arith) m

pub told-shares-if : (o : Option Interval) (s : Set) (r : Bool) → MatchOption o (r ≡ false) (λ i. Meets (between (ends i)) s r) → SharesIf (optional o) s r
told-shares-if None s r h = h
told-shares-if (Some i) s r h = told-shares (ends i) s r i.held.0 h

told-yes : (o : Option Pair) (s : Set) (r : Bool) → SharesIf o s r → UprightIf o → T r → Inhabited s → Shares o s
told-yes None s r h u t i = absurd (subst T h t)
told-yes (Some e) s r h u t i = (h u).0 t i

told-no : (o : Option Pair) (s : Set) (r : Bool) → SharesIf o s r → UprightIf o → Shares o s → T r
told-no None s r h u k = absurd k
told-no (Some e) s r h u k = (h u).1 k

asked_yes : (o : Option Pair) (s : Option Set) (r : Bool) → AskedIf o s r → UprightIf o → T r → IfAsked Inhabited s → IfAsked (Shares o) s
asked_yes o None r h u t i = tt
asked_yes o (Some s) r h u t i = told-yes o s r h u t i

asked_no : (o : Option Pair) (s : Option Set) (r : Bool) → AskedIf o s r → UprightIf o → IfAsked (Shares o) s → T r
asked_no o None r h u k = subst T (sym h) tt
asked_no o (Some s) r h u k = told-no o s r h u k

-- ---- all axes
pub lower-number : (wrapping : Bool) (e : Pair) → refusal wrapping e ≡ None → T (not (is_nan e.lo))
lower-number wrapping e h = grind arith

module _ (wrapping : Bool) (t : Told) (w : Frame) (e : Pair) (covered : Set) (x y z m : Bool) (is : t.x ≡ Some e) (held : Held e.lo) (granted : refusal wrapping e ≡ None) (eq : Equal covered (stored e)) (meets : Meets covered w.x x) (u : Upright t)
    (Y : SharesIf t.y w.y y) (Z : AskedIf t.z w.z z) (M : AskedIf t.m w.m m) where
  X : (T x → Inhabited w.x → Common (stored e) w.x) × (Common (stored e) w.x → T x)
  X = taken_shares covered w.x e x held (lower-number wrapping e granted) eq meets

  keeps : T (x && y && z && m) → Firm w → SharesAll t w
  keeps h f =
      let a : T x = grind arith in
      let b : T y = grind arith in
      let c : T z = grind arith in
      let d : T m = grind arith in
      record {
        x = subst (λ (o : Option Pair). Shares o w.x) (sym is) (X.0 a f.x);
        y = told-yes t.y w.y y Y u.y b f.y;
        z = asked_yes t.z w.z z Z u.z c f.z;
        m = asked_yes t.m w.m m M u.m d f.m;
      }

  skips : (x && y && z && m) ≡ false → SharesAll t w → ⊥
  skips h k =
      let a : T x = X.1 (subst (λ (o : Option Pair). Shares o w.x) is k.x) in
      let b : T y = told-no t.y w.y y Y u.y k.y in
      let c : T z = asked_no t.z w.z z Z u.z k.z in
      let d : T m = asked_no t.m w.m m M u.m k.m in
      grind arith

  decides : (b : Bool) → (x && y && z && m) ≡ b → Decides w t (cond b Keep Skip)
  decides true h = keeps (subst T (sym h) tt)
  decides false h = skips h

  -- the verdict, from whether each axis meets
  pub judged : (v : Verdict) → v ≡ cond (x && y && z && m) Keep Skip → TestedX wrapping w Column t t.x (Ok v)
  judged v h =
      subst (λ (o : Option Pair). TestedX wrapping w Column t o (Ok v)) (sym is)
      (subst (λ (f : Option Fault). Tested w Column t f (Ok v)) (sym granted) (v, refl, subst (Decides w t) (sym h) (decides (x && y && z && m) refl)))

-- ---- what is told of shapes goes up
upright_axis : (f : Axis) (rs : List Run) → UprightIf (shown (gather f every rs) (gather f every rs))
upright_axis f rs = go (empty (gather f every rs)) refl
  where
    go : (b : Bool) → empty (gather f every rs) ≡ b → UprightIf (cond b None (Some (gather f every rs)))
    go true e = tt
    go false e = gather-upright f every rs e

pub told-upright : (hint : Pair) (ss : List Shape) → Upright (told hint (record_of hint ss))
told-upright hint ss = record { y = upright_axis ys (runs_of ss); z = upright_axis zs (runs_of ss); m = upright_axis ms (runs_of ss) }

-- ---- a verdict on a page
abbrev pub placed-in : Target → Result Verdict Fault → Result Verdict Fault
placed-in g (Ok v) = Ok v
placed-in g (Err f) = Err (placed g f)

placed-tested : (w : Frame) (g : Target) (t : Told) (o : Option Fault) (r q : Result Verdict Fault) → Tested w Column t o r → q ≡ placed-in g r → Tested w g t o q
placed-tested w g t (Some f) r q h e = e ∙ ap (placed-in g) h
placed-tested w g t None r q (v, h, d) e = (v, e ∙ ap (placed-in g) h, d)

-- the same verdict, or the refusal with the page
pub placed-on : (wrapping : Bool) (w : Frame) (g : Target) (t : Told) (o : Option Pair) (r q : Result Verdict Fault) → TestedX wrapping w Column t o r → q ≡ placed-in g r → TestedX wrapping w g t o q
placed-on wrapping w g t None r q h e = e ∙ ap (placed-in g) h
placed-on wrapping w g t (Some x) r q h e = placed-tested w g t (refusal wrapping x) r q h e

-- ---- a skip
apart_tested : (w : Frame) (g : Target) (t : Told) (o : Option Fault) → Tested w g t o (Ok Skip) → SharesAll t w → ⊥
apart_tested w g t (Some f) h k = cc
apart_tested w g t None (v, e, d) k = let same : v ≡ Skip = cc in subst (Decides w t) same d k

apart_x : (wrapping : Bool) (w : Frame) (g : Target) (t : Told) (o : Option Pair) → t.x ≡ o → TestedX wrapping w g t o (Ok Skip) → SharesAll t w → ⊥
apart_x wrapping w g t None is h k = subst (λ (o : Option Pair). Shares o w.x) is k.x
apart_x wrapping w g t (Some e) is h k = apart_tested w g t (refusal wrapping e) h k

apart : (wrapping : Bool) (w : Frame) (g : Target) (r : Result Told Fault) → Sifted wrapping w g r (Ok Skip) → (t : Told) × (r ≡ Ok t) × (SharesAll t w → ⊥)
apart wrapping w g (Err f) h = absurd (cc)
apart wrapping w g (Ok t) h = (t, refl, apart_x wrapping w g t t.x refl h)

pub skipped_soundly : (b : Book) (w : Frame) (g : Target) (wrapping : Bool) (r : Result Verdict Fault)
    → ((h : List Call) → KeptBy (standing (size b) h) b → Sifted wrapping w g (tells (hint_of b) (standing (size b) h) g) r) → SkippedSoundly b w g r
skipped_soundly b w g wrapping r answers is h k =
    let s = standing (size b) h in
    let (t, e, no-share) = apart wrapping w g (tells (hint_of b) s g) (subst (Sifted wrapping w g (tells (hint_of b) s g)) is (answers h k)) in
    skips-soundly (hint_of b) s k.held w g t e no-share

-- ---- windows that are made cover some value
pub taken_inhabited : (covered : Set) (wrapping : Bool) (e : Pair) → Held e.lo → refusal wrapping e ≡ None → Equal covered (stored e) → Inhabited covered
taken_inhabited covered wrapping e h granted eq = let (v, V, k) = stored-lower e h (lower-number wrapping e granted) in (v, V, subst T (sym (eq v V)) k)

-- an ordinary pair that is granted goes up
goes_up : (e : Pair) → refusal false e ≡ None → T (le e.lo e.hi)
goes_up e h = let l = lt-is_not_le e.hi e.lo in grind arith

pub asked_inhabited : (o : Option (Float × Float)) (i : Option Interval) → refused_if o ≡ None → optional i ≡ optional_pair o → IfAsked Inhabited (optional_set i)
asked_inhabited o None granted e = tt
asked_inhabited None (Some i) granted e = absurd (cc)
asked_inhabited (Some p) (Some i) granted e =
    let same : ends i ≡ pair_of p = cc in
    let up : T (le i.lo i.hi) = goes_up (ends i) (ap (refusal false) same ∙ granted) in
    let n = le_left i.lo i.hi up in
    (i.lo, (i.held.0, n), let l = le_refl i.lo n in grind arith)
