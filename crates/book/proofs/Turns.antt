-- One call of a list, and the list so far.
use Rattle.std.proofs.Common.{◌≡◌, ℕ, ◌+◌, ◌<◌, Bool, ◌≢◌, List, [], ◌∷◌, ◌++◌, map, length, get_or, take, drop, set, Ok, Err, Result, sym, refl, ap, ◌∙◌, subst, add-zero, arith, below_none, below_more, min}
use Rattle.std.proofs.lemmas.List.{get_or-drop, get_or_default, get_or-take, map_more, drop-drop, drop-set-lt, get_or-set_same, get_or-set_other}
use Rattle.interval.specs.declared.fault.Fault.{Fault}
use Rattle.interval.specs.Laws.{Set}
use Rattle.interval.specs.Pairs.{Pair}
use Rattle.shapes.specs.Source.{Shape}
use Rattle.bounding.specs.Laws.{HeldShapes, together}
use Rattle.bounding.specs.declared.records.PageRecord.{PageRecord}
use Rattle.book.specs.declared.held.Book.{Book}
use Rattle.book.specs.declared.requests.Request.{Request}
use Rattle.book.specs.declared.requests.Request.TheVariants.{Opening}
use Rattle.book.specs.declared.requests.Done.{Done}
use Rattle.book.specs.declared.states.Slip.{Slip}
use Rattle.book.specs.Answers.{given, added, returned}
use Rattle.book.specs.Keeping.{KeptBy, Step, Written, size, hint_of}
use Rattle.book.specs.Replay.{called, reply, Replies, Replayed, Runs, after_first}
use Rattle.book.specs.Replied.{Reply}
use Rattle.book.specs.Standing.{Standing, Call, start, run, step, standing}
use Rattle.book.proofs.Promised.{skips-soundly, tells-truly}

-- ---- replies
-- a slip that was handed out goes by its page
abbrev pub slipped : Result Slip Fault → Reply
slipped (Ok p) = Ok (Done.Opened p.page)
slipped (Err f) = Err f

-- the slip that comes back with a refusal is taken apart again
abbrev pub spent : (ℕ → Done) → Result ℕ (Fault × Slip) → Reply
spent done (Ok p) = Ok (done p)
spent done (Err e) = Err e.0

pub slipped-given : {D : Type 0} (p : ℕ) (v : Result D Fault) → slipped (given p v) ≡ reply (Done.Opened p) v
slipped-given p (Ok d) = refl
slipped-given p (Err f) = refl

pub reply-added : {D : Type 0} (a : Done) (v : Result D Fault) → reply a (added v) ≡ reply a v
reply-added a (Ok d) = refl
reply-added a (Err f) = refl

pub spent-returned : {D : Type 0} (done : ℕ → Done) (p : ℕ) (v : Result D Fault) → spent done (returned p v) ≡ reply (done p) v
spent-returned done p (Ok d) = refl
spent-returned done p (Err f) = refl

-- the same call by an equal request
pub at-request : {K S : Type 0} (wrapping : Bool) (covers : K → Set) (means : S → Shape) (a : Reply) {b b' : Book} {x y : Request K S} → x ≡ y → Step b b' (called means y) (λ s. Replies wrapping covers means (hint_of b) (size b) s y a)
    → Step b b' (called means x) (λ s. Replies wrapping covers means (hint_of b) (size b) s x a)
at-request {K} {S} wrapping covers means a {b} {b'} e t = subst (λ (z : Request K S). Step b b' (called means z) (λ s. Replies wrapping covers means (hint_of b) (size b) s z a)) (sym e) t

-- ---- the list so far
-- the next of those that are left is the next of those that were asked
pub next_same : {X : Type 0} (left asked : List X) (n i : ℕ) (d e : X) → drop i left ≡ drop i (take n asked) → i < n → i < length asked → get_or left i d ≡ get_or asked i e
next_same left asked n i d e rest below inside =
    ap (λ j. get_or left j d) (sym (add-zero i)) ∙ sym (get_or-drop i left 0 d) ∙ ap (λ l. get_or l 0 d) rest ∙ get_or-drop i (take n asked) 0 d ∙ ap (λ j. get_or (take n asked) j d) (add-zero i)
    ∙ get_or-take n asked i d below ∙ get_or_default asked i d e inside

pub rest_same : {X : Type 0} (xs ys : List X) (i : ℕ) (x : X) → drop i xs ≡ drop i ys → drop (i + 1) (set xs i x) ≡ drop (i + 1) ys
rest_same xs ys i x e = drop-set-lt (i + 1) xs i x (omega arith) ∙ sym (drop-drop 1 i xs) ∙ ap (drop 1) e ∙ drop-drop 1 i ys

-- one call more writes the table once more
runs-push : (hint : Pair) (len : ℕ) (s : Standing) (h : List Call) (c : Call) (t u v : List PageRecord) → Runs hint len s h t u → Written hint len (run len s h) c u v → Runs hint len s (h ++ c ∷ []) t v
unfolding Runs run
runs-push hint len s [] c t u v r w = (v, subst (λ (z : List PageRecord). Written hint len s c z v) r w, refl)
runs-push hint len s (d ∷ h) c t u v (x, a, r) w = (x, a, runs-push hint len (step len s d) h c x u v r w)

-- what holds of the first i elements, and of the one that is set behind them
pub one_more : {X : Type 0} (P : ℕ → X → Type 0) (d : X) (xs : List X) (i : ℕ) (a : X) → i < length xs → ((k : ℕ) → k < i → P k (get_or xs k d)) → P i a → (k : ℕ) → k < i + 1 → P k (get_or (set xs i a) k d)
one_more P d xs i a within before here =
    below_more (λ k. P k (get_or (set xs i a) k d)) i
    (λ k h. let ne : k ≢ i = omega arith in subst (P k) (sym (get_or-set_other xs i k a d ne)) (before k h))
    (subst (P i) (sym (get_or-set_same xs i a d within)) here)

-- What holds after the first i calls on a new book.
pub record Played {K S : Type 0} (wrapping : Bool) (covers : K → Set) (means : S → Shape) (first : Book) (asked : List (Request K S)) (given replies : List Reply) (i : ℕ) (b : Book) : Type 0 where
  pub same_size : size b ≡ size first
  pub same_hint : hint_of b ≡ hint_of first
  pub same_table : b.table.ghost_name ≡ first.table.ghost_name
  pub same_pending : b.pending.ghost_name ≡ first.pending.ghost_name
  pub keeps : KeptBy (after_first means (size first) asked i) b
  pub answered : (k : ℕ) → k < i → Replies wrapping covers means (hint_of first) (size first) (after_first means (size first) asked k) (get_or asked k Opening) (get_or replies k (Ok Done.Added))
  pub unanswered : drop i replies ≡ drop i given
  pub written : Runs (hint_of first) (size first) start (map (called means) (take i asked)) first.table.now b.table.now
  pub held : (k : ℕ) → k < i + 1 → HeldShapes (together (after_first means (size first) asked k).pages)

pub played-none : {K S : Type 0} (wrapping : Bool) (covers : K → Set) (means : S → Shape) (first : Book) (asked : List (Request K S)) (given : List Reply) → KeptBy start first → Played wrapping covers means first asked given given 0 first
unfolding run Runs
played-none wrapping covers means first asked given k =
    record {
      same_size = refl;
      same_hint = refl;
      same_table = refl;
      same_pending = refl;
      keeps = k;
      answered = below_none _;
      unanswered = refl;
      written = refl;
      held = below_more (λ n. HeldShapes (together (after_first means (size first) asked n).pages)) 0 (below_none _) k.held;
    }

module _ {K S : Type 0} {wrapping : Bool} {covers : K → Set} {means : S → Shape} {first b b' : Book} {asked : List (Request K S)} {given replies : List Reply} {i : ℕ} (p : Played wrapping covers means first asked given replies i b)
    (x : Request K S) (a : Reply) (inside : i < length asked) (room : i < length replies) (is : x ≡ get_or asked i Opening) (turned : Step b b' (called means x) (λ s. Replies wrapping covers means (hint_of b) (size b) s x a)) where
  abbrev this : Request K S
  this = get_or asked i Opening

  -- the turn, said of the request as it was asked
  turn : Step b b' (called means this) (λ s. Replies wrapping covers means (hint_of b) (size b) s this a)
  turn = subst (λ (y : Request K S). Step b b' (called means y) (λ s. Replies wrapping covers means (hint_of b) (size b) s y a)) is turned

  before : List Call
  before = map (called means) (take i asked)

  kept_here : KeptBy (standing (size b) before) b
  unfolding before
  kept_here = subst (λ (n : ℕ). KeptBy (after_first means n asked i) b) (sym p.same_size) p.keeps

  longer : before ++ called means this ∷ [] ≡ map (called means) (take (i + 1) asked)
  unfolding before
  longer = sym (map_more (called means) asked i Opening inside)

  turn-keeps : KeptBy (after_first means (size first) asked (i + 1)) b'
  turn-keeps =
      subst (λ (cs : List Call). KeptBy (standing (size first) cs) b') longer
      (subst (λ (n : ℕ). KeptBy (standing n (before ++ called means this ∷ [])) b') p.same_size (turn.keeps before kept_here))

  turn-replies : Replies wrapping covers means (hint_of first) (size first) (after_first means (size first) asked i) this a
  unfolding before
  turn-replies =
      subst (λ (n : ℕ). Replies wrapping covers means (hint_of first) n (standing n before) this a) p.same_size
      (subst (λ (h : Pair). Replies wrapping covers means h (size b) (standing (size b) before) this a) p.same_hint (turn.answers before kept_here))

  turn-runs : Runs (hint_of first) (size first) start (map (called means) (take (i + 1) asked)) first.table.now b'.table.now
  unfolding before
  turn-runs =
      let w = subst (λ (n : ℕ). Written (hint_of first) n (standing n before) (called means this) b.table.now b'.table.now) p.same_size
      (subst (λ (h : Pair). Written h (size b) (standing (size b) before) (called means this) b.table.now b'.table.now) p.same_hint (turn.writes before kept_here)) in
      subst (λ (cs : List Call). Runs (hint_of first) (size first) start cs first.table.now b'.table.now) longer
      (runs-push (hint_of first) (size first) start before (called means this) first.table.now b.table.now b'.table.now p.written w)

  -- one call more
  pub played-more : Played wrapping covers means first asked given (set replies i a) (i + 1) b'
  played-more =
      record {
        same_size = turn.same_size ∙ p.same_size;
        same_hint = turn.same_hint ∙ p.same_hint;
        same_table = turn.same_table ∙ p.same_table;
        same_pending = turn.same_pending ∙ p.same_pending;
        keeps = turn-keeps;
        answered =
            one_more (λ k r. Replies wrapping covers means (hint_of first) (size first) (after_first means (size first) asked k) (get_or asked k Opening) r) (Ok Done.Added) replies i a room p.answered turn-replies;
        unanswered = rest_same replies given i a p.unanswered;
        written = turn-runs;
        held = below_more (λ k. HeldShapes (together (after_first means (size first) asked k).pages)) (i + 1) p.held turn-keeps.held;
      }

-- after the last call
pub replayed : {K S : Type 0} {wrapping : Bool} {covers : K → Set} {means : S → Shape} {first b : Book} {asked : List (Request K S)} {given replies : List Reply} {i n : ℕ} (hint : Pair) (before after : List PageRecord) → Played wrapping covers means first asked given replies i b
    → i ≡ n → n ≡ min (length asked) (length replies) → hint_of first ≡ hint → first.table.now ≡ before → b.table.now ≡ after → Replayed wrapping covers means hint asked given replies n before after
replayed {wrapping} {covers} {means} {first} {b} {asked} {given} {replies} {i} {n} hint before after p done all hinted was is =
    subst (λ (h : Pair). Replayed wrapping covers means h asked given replies n before after) hinted
    (subst (λ (t : List PageRecord). Replayed wrapping covers means (hint_of first) asked given replies n t after) was
    (subst (λ (t : List PageRecord). Replayed wrapping covers means (hint_of first) asked given replies n first.table.now t) is
    (let q = subst (λ (k : ℕ). Played wrapping covers means first asked given replies k b) done p in
    record {
      all = all;
      answered = q.answered;
      unanswered = q.unanswered;
      written = q.written;
      skips = λ k h. skips-soundly _ (after_first means (size first) asked k) (q.held k (omega arith));
      tells = λ k h. tells-truly _ (after_first means (size first) asked k) first.pending.now.hint.held (q.held k (omega arith));
    })))
