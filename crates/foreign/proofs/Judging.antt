-- Windows and records that were handed, and the verdict on them.
use Rattle.std.proofs.Common.{◌≡◌, ℕ, ◌^◌, Bool, true, false, cond, ◌&&◌, ◌||◌, T, ltb, List, [], ◌∷◌, Some, None, Ok, Err, Option, Result, sym, refl, ap, ◌∙◌, subst, inl, inr, append-nil, arith, MatchResult}
use mathlib.Core.List.{Memᴰ}
use lib.Ieee.{Float, nan, inf, fin, eq, is_nan}
use Rattle.interval.specs.declared.fault.Fault.{Fault}
use Rattle.interval.specs.Pairs.{Pair, pair, ends, nothing, same, empty}
use Rattle.interval.specs.Laws.{Set, Equal, refusal}
use Rattle.shapes.specs.Source.{Shape}
use Rattle.bounding.specs.Record.{Kept, record_of}
use Rattle.bounding.specs.Told.{Told, told}
use Rattle.bounding.specs.Laws.{together}
use Rattle.book.specs.declared.states.Target.TheVariants.{Page, Column}
use Rattle.book.specs.declared.states.State.TheVariants.{Idle}
use Rattle.book.specs.declared.states.Verdict.{Verdict}
use Rattle.book.specs.declared.states.Verdict.TheVariants.{Skip, Keep}
use Rattle.book.specs.Standing.{Standing}
use Rattle.book.specs.Windows.{Frame, Firm, Shares, SharesAll, IfAsked, Decides, Tested, TestedX}
use Rattle.book.specs.Verdicts.{Upright, UprightIf}
use Rattle.std.proofs.lemmas.Result.{MatchResult-weaker}
use Rattle.bounding.proofs.Covers.{empty-nothing}
use Rattle.book.proofs.Promised.{skips-soundly}
use Rattle.foreign.specs.declared.question.Question.{Question}
use Rattle.foreign.specs.declared.raw.RawRecord.{RawRecord}
use Rattle.foreign.specs.declared.raw.RawWindow.{RawWindow}
use Rattle.foreign.specs.declared.refusals.Misuse.TheVariants.{Record}
use Rattle.foreign.specs.declared.refusals.Refusal.{Refusal}
use Rattle.foreign.specs.declared.refusals.Refusal.TheVariants.{Refused, Misused}
use Rattle.foreign.specs.Statuses.{Unless}
use Rattle.foreign.specs.Questions.{Poses, frame_in, wrapping_in}
use Rattle.foreign.specs.Values.{frame, kept_in, usable, usable_pair, wraps}
use Rattle.foreign.specs.Calls.{Alike, ByteOr, NoneMeets, PageByte, Rules, by_fault, byte_of, page_refusal, record_refusal, x_refusal}

-- ---- windows that cover the same

-- what shares a value with one of two windows that cover the same shares one with the other
shares_equal : (o : Option Pair) (s t : Set) → Equal s t → Shares o s → Shares o t
shares_equal None s t e h = h
shares_equal (Some p) s t e (v, V, a, b) = (v, V, a, subst T (e v V) b)

pub shares_alike : (t : Told) (v w : Frame) → Alike v w → SharesAll t v → SharesAll t w
shares_alike t v w a h =
    record {
      x = shares_equal t.x v.x w.x a.x h.x;
      y = subst (Shares t.y) a.y h.y;
      z = subst (IfAsked (Shares t.z)) a.z h.z;
      m = subst (IfAsked (Shares t.m)) a.m h.m;
    }

pub shares_back : (t : Told) (v w : Frame) → Alike v w → SharesAll t w → SharesAll t v
shares_back t v w a h = shares_alike t w v (record { x = λ u U. sym (a.x u U); y = sym a.y; z = sym a.z; m = sym a.m }) h

pub rules-alike : (t : Told) (v w : Frame) (b : ℕ) → Alike v w → Rules v t b → Rules w t b
rules-alike t v w b a (inl (e, apart)) = inl (e, λ h. apart (shares_back t v w a h))
rules-alike t v w b a (inr (e, h)) = inr (e, shares_alike t v w a h)

-- ---- a record that was handed

infinite-only : (s : Bool) (x : Float) → T (eq x (inf s) || (is_nan x && is_nan (inf s))) → x ≡ inf s
unfolding eq is_nan
infinite-only s nan h = absurd h
infinite-only true (inf true) h = refl
infinite-only true (inf false) h = absurd h
infinite-only false (inf true) h = absurd h
infinite-only false (inf false) h = refl
infinite-only s (fin t m e) h = absurd h

nothing_is : (p : Pair) → T (same p nothing) → empty p ≡ true
nothing_is p h =
    let low : p.lo ≡ inf false = infinite-only false p.lo (grind arith) in
    let high : p.hi ≡ inf true = infinite-only true p.hi (grind arith) in
    let is : p ≡ nothing = ap (λ (l : Float). pair l p.hi) low ∙ ap (λ (u : Float). pair (inf false) u) high in
    ap empty is ∙ empty-nothing

upright_axis : (p : Pair) → T (usable_pair p) → UprightIf (cond (empty p) None (Some p))
upright_axis p h = go (empty p) refl
  where
    go : (b : Bool) → empty p ≡ b → UprightIf (cond b None (Some p))
    go true e = tt
    go false e = let n = nothing_is p in grind arith

middle_three : (a b c d e f g : Bool) → T (a && b && c && d && e && f && g) → T d × T e × T f
middle_three a b c d e f g h = (grind arith, grind arith, grind arith)

pub told-upright : (h : Pair) (k : Kept) → T (usable k) → Upright (told h k)
told-upright h k u =
    let (y, z, m) = middle_three (usable_pair k.left) (usable_pair k.mid) (usable_pair k.right) (usable_pair k.y) (usable_pair k.z) (usable_pair k.m) (ltb k.codes (2 ^ 28)) u in
    record { y = upright_axis k.y y; z = upright_axis k.z z; m = upright_axis k.m m }

pub granted-usable : (r : RawRecord) → record_refusal r ≡ None → T (usable (kept_in r))
granted-usable r h = go (usable (kept_in r)) h
  where
    go : (b : Bool) → ◌≡◌ {A = Option Refusal} (cond b None (Some (Misused Record))) None → T b
    go true e = tt
    go false e = absurd cc

-- ---- the verdict

-- there is a verdict by the rule, or o says why not
abbrev pub Judged : Frame → Told → Option Refusal → Result Verdict Fault → Type 0
Judged w t o r = MatchResult r (λ v. (o ≡ None) × Rules w t (byte_of v)) (λ f. o ≡ Some (Refused f))

decided : (w : Frame) (t : Told) (v : Verdict) → Firm w → Decides w t v → Rules w t (byte_of v)
decided w t Skip firm d = inl (refl, d)
decided w t Keep firm d = inr (refl, d firm)

tested : (w : Frame) (t : Told) (o : Option Fault) (r : Result Verdict Fault) → Firm w → Tested w Column t o r → Judged w t (by_fault o) r
tested w t (Some g) (Ok v) firm h = absurd cc
tested w t (Some g) (Err f) firm h = cc
tested w t None (Ok v) firm (u, e, d) = let same : u ≡ v = cc in (refl, decided w t v firm (subst (Decides w t) same d))
tested w t None (Err f) firm (u, e, d) = absurd cc

pub tested_x : (wrapping : Bool) (w : Frame) (t : Told) (x : Option Pair) → t.x ≡ x → (r : Result Verdict Fault) → Firm w → TestedX wrapping w Column t x r → Judged w t (x_refusal wrapping x) r
tested_x wrapping w t None e (Ok v) firm h =
    let same : Skip ≡ v = cc in
    (refl, decided w t v firm (subst (Decides w t) same (λ k. subst (λ (o : Option Pair). Shares o w.x) e k.x)))
tested_x wrapping w t None e (Err f) firm h = absurd cc
tested_x wrapping w t (Some p) e r firm h = tested w t (refusal wrapping p) r firm h

-- the verdict under a question on a record that was handed, of which k is kept and t is told
pub judged : (w : RawWindow) (h : Pair) (q : Question) → Poses w h q → (page : RawRecord) (k : Kept) (t : Told) → record_refusal page ≡ None → k ≡ kept_in page → t ≡ told (ends q.hint) k → (r : Result Verdict Fault) → (Upright t → TestedX (wrapping_in q.window) (frame_in q.window) Column t t.x r) → Judged (frame w) (told h (kept_in page)) (page_refusal (wraps w) h page) r
judged w h q (hinted, is) page k t granted kept-is told_is r f =
    let v = frame_in q.window in
    let now = told h (kept_in page) in
    let same : t ≡ now = rw (told_is, hinted, kept-is) refl in
    let up = told-upright h (kept_in page) (granted-usable page granted) in
    let by = subst (λ (u : Told). Upright u → TestedX (wrapping_in q.window) v Column u u.x r) same f up in
    let by_kind = subst (λ (b : Bool). TestedX b v Column now now.x r) is.kind by in
    rw granted (MatchResult-weaker r (tested_x (wraps w) v now now.x refl r is.firm by_kind) (λ d p. (p.0, rules-alike now v (frame w) (byte_of d) is.alike p.1)) (λ e p. p))

-- a page that is skipped holds no run that meets the window: the promise of a book with that one page
pub skipped_none : (w : Frame) (h : Pair) (r : RawRecord) → Rules w (told h (kept_in r)) 0 → NoneMeets w h r
unfolding together
skipped_none w h r (inr (e, k)) ss held is q m meets = absurd (omega arith)
skipped_none w h r (inl (e, apart)) ss held is q m meets =
    let one : Standing = record { pages = ss ∷ []; state = Idle; current = [] } in
    skips-soundly h one (λ s i. held s (subst (λ (l : List Shape). Memᴰ s l) (append-nil ss) i)) w (Page 0) (told h (record_of h ss)) refl (subst (λ (k : Kept). SharesAll (told h k) w → ⊥) is apart) q m meets

-- ---- the byte of a page

byte_zero : (w : Frame) (t : Told) (o : Option Refusal) (b : ℕ) → ByteOr o (Rules w t b) b → b ≡ 0 → Rules w t 0
byte_zero w t None b h e = subst (Rules w t) e h
byte_zero w t (Some (Refused f)) b h e = absurd (omega arith)
byte_zero w t (Some (Misused m)) b h e = absurd (omega arith)

pub byte_skips : (wrapping : Bool) (w : Frame) (h : Pair) (r : RawRecord) (b : ℕ) → PageByte wrapping w h r b → b ≡ 0 → NoneMeets w h r
byte_skips wrapping w h r b k e = skipped_none w h r (byte_zero w (told h (kept_in r)) (page_refusal wrapping h r) b k e)

-- ---- what a call promises where it is granted

pub unless-gives : (o : Option Refusal) (P Q R : Type 0) → Unless o P Q → (P → R) → Unless o R (Unit {0})
unless-gives None P Q R p f = f p
unless-gives (Some e) P Q R q f = tt
