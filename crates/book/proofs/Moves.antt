-- One call, from what the rule said of it.
use Rattle.std.proofs.Common.{◌≡◌, ℕ, zero, suc, ◌+◌, ◌<◌, ◌≤◌, List, [], ◌∷◌, ◌++◌, map, length, get_or, take, set, Ok, Err, Result, sym, refl, ap, ◌∙◌, subst, ap₂, ◌⊎◌, inl, inr, IsErrAnd, MatchResult, append-nil, arith, length-take, Bor, Option, Some, None, IsSomeAnd, MatchOption, ok_or}
use Rattle.std.specs.Slice.{IsItemAt}
use mathlib.Core.List.Memᴰ
use mathlib.Core.List.{Memᴰ}
use lib.Seq.{map-set, take-set-lt}
use Rattle.std.proofs.lemmas.List.{take_more_set, map_push, length_push, length-set, get_or-take, get_or-map}
use Rattle.std.proofs.lemmas.Bool.{cond_below, cond_above}
use Rattle.std.proofs.lemmas.Result.{err_from_is_err_and}
use Rattle.interval.specs.declared.fault.Fault.{Fault}
use Rattle.interval.specs.declared.fault.Cause.TheVariants.{NoSuchPage}
use Rattle.interval.specs.Faults.{at}
use Rattle.interval.specs.Pairs.{Pair}
use Rattle.shapes.specs.Source.{Shape}
use Rattle.bounding.specs.declared.records.Answer.{Answer}
use Rattle.bounding.specs.declared.records.PageRecord.{PageRecord}
use Rattle.bounding.specs.Record.{Kept, record_of}
use Rattle.bounding.specs.Told.{Told, told}
use Rattle.bounding.specs.Laws.{HeldShapes, HeldCoords, together, merged_from}
use Rattle.bounding.specs.Walk.{answer, kept, Adds, empty_record}
use Rattle.bounding.proofs.Walks.{no_shapes}
use Rattle.book.specs.declared.held.Book.{Book}
use Rattle.book.specs.declared.states.Asked.{Asked}
use Rattle.book.specs.declared.states.Deed.{Deed}
use Rattle.book.specs.declared.states.Deed.TheVariants.{Put, Append, Replace}
use Rattle.book.specs.declared.states.State.{State}
use Rattle.book.specs.declared.states.State.TheVariants.{Idle, Filling, Refilling}
use Rattle.book.specs.declared.states.Target.{Target}
use Rattle.book.specs.declared.states.Target.TheVariants.{Page, Column}
use Rattle.book.specs.Promises.{tells, record_at}
use Rattle.book.specs.Room.{usable}
use Rattle.book.specs.Standing.{Standing, Call, Brought, moves, asks, standing, start, run, step, after, done, ruling, outcome, verdict}
use Rattle.book.specs.Answers.{added, told_by}
use Rattle.book.specs.Keeping.{Pending, Keeps, KeptBy, Moved, Replaced, Step, ToldTruly, Written, WrittenBy, size, hint_of}
use Rattle.book.proofs.Promised.{skips-soundly, tells-truly}

pub run-push : (len : ℕ) (s : Standing) (h : List Call) (c : Call) → run len s (h ++ c ∷ []) ≡ step len (run len s h) c
unfolding run
run-push len s [] c = refl
run-push len s (d ∷ h) c = run-push len (step len s d) h c

-- b keeps what stands, under this hint
abbrev KeptUnder : Pair → Standing → Book → Type 0
KeptUnder hint s b = Keeps hint s b.table.now b.pending.now.kept b.closed b.state

-- a call, from what it does to any standing that the book keeps
pub stepped : (b b' : Book) (c : Call) (Answered : Standing → Type 0) → size b' ≡ size b → hint_of b' ≡ hint_of b → b'.table.ghost_name ≡ b.table.ghost_name → b'.pending.ghost_name ≡ b.pending.ghost_name
    → ((s : Standing) → KeptBy s b → Written (hint_of b) (size b) s c b.table.now b'.table.now)
    → ((s : Standing) → KeptBy s b → KeptUnder (hint_of b) (step (size b) s c) b')
    → ((s : Standing) → KeptBy s b → Answered s) → Step b b' c Answered
stepped b b' c Answered same hints names names₂ writing keeping answering =
    record {
      same_size = same;
      same_hint = hints;
      same_table = names;
      same_pending = names₂;
      writes = λ h k. writing (standing (size b) h) k;
      keeps = λ h k. keeps-longer h k;
      answers = λ h k. answering (standing (size b) h) k;
      skips = λ h k. skips-soundly (hint_of b) (standing (size b) (h ++ c ∷ [])) (keeps-longer h k).held;
      tells = λ h k. tells-truly (hint_of b) (standing (size b) (h ++ c ∷ [])) b.pending.now.hint.held (keeps-longer h k).held;
    }
  where
    keeps-longer : (h : List Call) → KeptBy (standing (size b) h) b → KeptBy (standing (size b) (h ++ c ∷ [])) b'
    keeps-longer h k =
        subst (λ (hint : Pair). KeptUnder hint (standing (size b) (h ++ c ∷ [])) b') (sym hints) (subst (λ (s : Standing). KeptUnder (hint_of b) s b') (sym (run-push (size b) start h c)) (keeping (standing (size b) h) k))

-- the rule on the book's fields is the ruling on what stands
pub agreed : {hint : Pair} {s : Standing} {table : List PageRecord} {pending : PageRecord} {closed : ℕ} {state : State} → Keeps hint s table pending closed state → (a : Asked) (x : Brought)
    → verdict (length table) s a x ≡ outcome (ruling state closed (usable (length table)) a) a x
agreed {table} k a x = ap₂ (λ (q : State) (n : ℕ). outcome (ruling q n (usable (length table)) a) a x) (sym k.same_state) (sym k.count)

pub moved : (b b' : Book) (a : Asked) (x : Brought) (v : Result Deed Fault) (Answered : Standing → Type 0) → v ≡ outcome (ruling b.state b.closed (usable (size b)) a) a x → size b' ≡ size b → hint_of b' ≡ hint_of b
    → b'.table.ghost_name ≡ b.table.ghost_name → b'.pending.ghost_name ≡ b.pending.ghost_name
    → ((s : Standing) → KeptBy s b → WrittenBy (hint_of b) s b.table.now b'.table.now v)
    → ((s : Standing) → KeptBy s b → KeptUnder (hint_of b) (after s x v) b')
    → ((s : Standing) → KeptBy s b → verdict (size b) s a x ≡ v → Answered s) → Step b b' (moves a x) Answered
moved b b' a x v Answered said same hints names names₂ writing keeping answering =
    stepped b b' (moves a x) Answered same hints names names₂
    (λ s k. subst (WrittenBy (hint_of b) s b.table.now b'.table.now) (sym (agreed k a x ∙ sym said)) (writing s k))
    (λ s k. subst (λ (u : Result Deed Fault). KeptUnder (hint_of b) (after s x u) b') (sym (agreed k a x ∙ sym said)) (keeping s k))
    (λ s k. answering s k (agreed k a x ∙ sym said))

-- a question changes nothing
pub asked : (b : Book) {Answered : Standing → Type 0} → ((s : Standing) → KeptBy s b → Answered s) → Step b b asks Answered
asked b answering = stepped b b asks _ refl refl refl refl (λ s k. refl) (λ s k. k) answering

-- a call that the rule refuses changes nothing
pub refused : (b : Book) (a : Asked) (x : Brought) (f : Fault) (r : Result (Unit {0}) Fault) → IsErrAnd r (λ g. g ≡ f) → Err f ≡ ruling b.state b.closed (usable (size b)) a
    → Moved b b a x (λ _. added) r
refused b a x f r e h =
    let (g, is, same) = err_from_is_err_and r e in
    moved b b a x (Err f) _ (ap (λ (u : Result Deed Fault). outcome u a x) h) refl refl refl refl (λ s k. refl) (λ s k. k) (λ s k u. is ∙ ap (λ (g : Fault). Err g) same ∙ ap added (sym u))

-- a call that the rule grants does its deed
pub does : (b b' : Book) (a : Asked) (xs : List Shape) (d : Deed) (r : Result (Unit {0}) Fault) → r ≡ Ok tt → Ok d ≡ ruling b.state b.closed (usable (size b)) a → size b' ≡ size b → hint_of b' ≡ hint_of b → b'.table.ghost_name ≡ b.table.ghost_name
    → b'.pending.ghost_name ≡ b.pending.ghost_name → ((s : Standing) → KeptBy s b → WrittenBy (hint_of b) s b.table.now b'.table.now (Ok d)) → ((s : Standing) → KeptBy s b → KeptUnder (hint_of b) (done s xs d) b')
    → Moved b b' a (Ok xs) (λ _. added) r
does b b' a xs d r is h same hints names names₂ writing keeping =
    moved b b' a (Ok xs) (Ok d) _ (ap (λ (u : Result Deed Fault). outcome u a (Ok xs)) h) same hints names names₂ writing keeping (λ s k u. is ∙ ap added (sym u))

-- what `map_err` returns, by what it was called on
pub by_variant : {T E D : Type 0} (r : Result T E) (q : Result T D) {P : T → Type 0} {Q : E → Type 0} {R : E → D → Type 0} → MatchResult r P Q → MatchResult r (λ x. q ≡ Ok x) (λ e. IsErrAnd q (R e))
    → ((x : T) × P x × (q ≡ Ok x)) ⊎ ((e : E) × Q e × ((d : D) × (q ≡ Err d) × R e d))
by_variant (Ok x) q p m = inl (x, p, m)
by_variant (Err e) q p m = inr (e, p, err_from_is_err_and q m)

-- the same call under another answer that follows from the first
pub reworded : {b b' : Book} {c : Call} {P Q : Standing → Type 0} → Step b b' c P → ((h : List Call) → KeptBy (standing (size b) h) b → P (standing (size b) h) → Q (standing (size b) h)) → Step b b' c Q
reworded t f =
    record {
      same_size = t.same_size;
      same_hint = t.same_hint;
      same_table = t.same_table;
      same_pending = t.same_pending;
      writes = t.writes;
      keeps = t.keeps;
      answers = λ h k. f h k (t.answers h k);
      skips = t.skips;
      tells = t.tells;
    }

-- the same call by an equal thing brought
pub brought : (b b' : Book) (a : Asked) (x y : Brought) (r : Result (Unit {0}) Fault) → x ≡ y → Moved b b' a y (λ _. added) r → Moved b b' a x (λ _. added) r
brought b b' a x y r e t = subst (λ (z : Brought). Moved b b' a z (λ _. added) r) (sym e) t

-- ---- shapes that f64s hold
held-append : (a b : List Shape) → HeldShapes a → HeldShapes b → HeldShapes (a ++ b)
held-append a b h k x m = elim (Memᴰ.append_cases a m) [ inl p ↦ h x p | inr p ↦ k x p ]

held_one : (x : Shape) → HeldCoords x.coords → HeldShapes (x ∷ [])
held_one x h y m = go m
  where
    go : Memᴰ y (x ∷ []) → HeldCoords y.coords
    go (Memᴰ.head e) = subst (λ (z : Shape). HeldCoords z.coords) (sym e) h
    go (Memᴰ.tail n) = elim n [ ]

held_none : HeldShapes []
held_none x m = elim m [ ]

held-push : (ps : List (List Shape)) (c : List Shape) → HeldShapes (together ps) → HeldShapes c → HeldShapes (together (ps ++ c ∷ []))
unfolding together
held-push [] c h k = held-append c [] k held_none
held-push (p ∷ ps) c h k =
    held-append p (together (ps ++ c ∷ [])) (λ x m. h x (Memᴰ.append_left (together ps) m)) (held-push ps c (λ x m. h x (Memᴰ.append_right p m)) k)

held-set : (ps : List (List Shape)) (n : ℕ) (c : List Shape) → HeldShapes (together ps) → HeldShapes c → HeldShapes (together (set ps n c))
unfolding together
held-set [] n c h k = h
held-set (p ∷ ps) zero c h k = held-append c (together ps) k (λ x m. h x (Memᴰ.append_right p m))
held-set (p ∷ ps) (suc n) c h k = held-append p (together (set ps n c)) (λ x m. h x (Memᴰ.append_left (together ps) m)) (held-set ps n c (λ x m. h x (Memᴰ.append_right p m)) k)

-- ---- what each deed leaves kept
module _ {hint : Pair} {s : Standing} {table : List PageRecord} {pending : PageRecord} {closed : ℕ} {state : State} (k : Keeps hint s table pending closed state) where
  -- with an empty list in hand: a page is opened, or dropped
  pub emptied : (q : State) (r : PageRecord) → Pending hint q r [] → Keeps hint (record { pages = s.pages; state = q; current = [] }) table r closed q
  emptied q r e = record { count = k.count; same_state = refl; records = k.records; open_list = e; held = k.held; held_open = held_none }

  pub put : (x : Shape) (r : PageRecord) → Adds hint (kept pending) x (kept r) → HeldCoords x.coords → Keeps hint (done s (x ∷ []) Put) table r closed state
  put x r a h =
      record { count = k.count; same_state = k.same_state; records = k.records; open_list = go state k.open_list; held = k.held; held_open = held-append s.current (x ∷ []) k.held_open (held_one x h) }
    where
      go : (q : State) → Pending hint q pending s.current → Pending hint q r (s.current ++ x ∷ [])
      go Idle p = tt
      go Filling p = a s.current p
      go (Refilling n) p = a s.current p

  pub put-none : Keeps hint (done s [] Put) table pending closed state
  put-none =
      record {
        count = k.count;
        same_state = k.same_state;
        records = k.records;
        open_list = subst (Pending hint state pending) (sym (append-nil s.current)) k.open_list;
        held = k.held;
        held_open = subst HeldShapes (sym (append-nil s.current)) k.held_open;
      }

  -- the pending record, by the state
  pub in_hand : (q : State) → state ≡ q → Pending hint q pending s.current
  in_hand q e = subst (λ (q : State). Pending hint q pending s.current) e k.open_list

  module _ (r : PageRecord) (same : r ≡ pending) where
    pub appended : state ≡ Filling → closed < length table → Keeps hint (done s [] Append) (set table closed r) pending (closed + 1) Idle
    appended e lt =
        record {
          count = ap (λ (n : ℕ). n + 1) k.count ∙ sym (length_push s.pages s.current);
          same_state = refl;
          records =
              ap (map kept) (take_more_set table closed r lt) ∙ map_push kept (take closed table) r
              ∙ ap₂ (λ (r : List Kept) (p : Kept). r ++ p ∷ []) k.records (ap kept same ∙ in_hand Filling e) ∙ sym (map_push (record_of hint) s.pages s.current);
          open_list = tt;
          held = held-push s.pages s.current k.held k.held_open;
          held_open = held_none;
        }

    pub replaced : (n : ℕ) → state ≡ Refilling n → n < closed → Keeps hint (done s [] (Replace n)) (set table n r) pending closed Idle
    replaced n e lt =
        record {
          count = k.count ∙ sym (length-set s.pages n s.current);
          same_state = refl;
          records =
              ap (map kept) (take-set-lt closed table n r lt) ∙ map-set kept (take closed table) n r
              ∙ ap₂ (λ (r : List Kept) (p : Kept). set r n p) k.records (ap kept same ∙ in_hand (Refilling n) e) ∙ sym (map-set (record_of hint) s.pages n s.current);
          open_list = tt;
          held = held-set s.pages n s.current k.held k.held_open;
          held_open = held_none;
        }

    pub append-writes : state ≡ Filling → Replaced hint s (length s.pages) table (set table closed r)
    append-writes e = (r, ap (λ (n : ℕ). set table n r) k.count, ap kept same ∙ in_hand Filling e)

    pub replace-writes : (n : ℕ) → state ≡ Refilling n → Replaced hint s n table (set table n r)
    replace-writes n e = (r, refl, ap kept same ∙ in_hand (Refilling n) e)

-- ---- a new book
pub nothing-kept : (hint : Pair) (table : List PageRecord) (pending : PageRecord) → Keeps hint start table pending 0 Idle
nothing-kept hint table pending =
    record { count = refl; same_state = refl; records = refl; open_list = tt; held = unfold together in held_none; held_open = held_none }

-- ---- what is told
module _ {hint : Pair} {s : Standing} {table : List PageRecord} {pending : PageRecord} {closed : ℕ} {state : State} (k : Keeps hint s table pending closed state) where
  page_record : (n : ℕ) (d : PageRecord) → n < closed → closed ≤ length table → kept (get_or table n d) ≡ record_of hint (get_or s.pages n [])
  page_record n d lt within =
      let inside : n < length (take closed table) = simp length-take (omega arith) in
      let below : n < length s.pages = rw k.count at lt in
      ap kept (sym (get_or-take closed table n d lt)) ∙ sym (get_or-map kept (take closed table) n d (kept d) inside) ∙ ap (λ (l : List Kept). get_or l n (kept d)) k.records ∙ get_or-map (record_of hint) s.pages n [] (kept d) below

  pub told-page : (n : ℕ) (d : PageRecord) → n < closed → closed ≤ length table → Ok (told hint (kept (get_or table n d))) ≡ tells hint s (Page n)
  told-page n d lt within =
      let below : n < length s.pages = rw k.count at lt in
      ap {B = Result Told Fault} (λ (q : Kept). Ok (told hint q)) (page_record n d lt within) ∙ cond_below n (length s.pages) _ _ below

  pub told_none : (n : ℕ) → closed ≤ n → Err (at NoSuchPage n) ≡ tells hint s (Page n)
  told_none n le = let past : length s.pages ≤ n = rw k.count at le in cond_above n (length s.pages) _ _ _ past refl

  -- what the closed pages have at n, told, or the refusal
  pub told-got : {L : Bor PageRecord → Answer → Type 0} (n : ℕ) (got : Option (Bor PageRecord)) (m : Option Answer) → closed ≤ length table → IsItemAt (take closed table) n got → MatchOption got (m ≡ None) (λ x. IsSomeAnd m (L x))
      → ((x : Bor PageRecord) (a : Answer) → L x a → answer a ≡ told hint (kept x.now)) → told_by (ok_or m (at NoSuchPage n)) ≡ tells hint s (Page n)
  told-got n None m within here none exact =
      let past = simp length-take at here.3 in
      let le : closed ≤ n = omega arith in
      ap (λ (o : Option Answer). told_by (ok_or o (at NoSuchPage n))) none ∙ told_none n le
  told-got n (Some x) None within here some exact = absurd some
  told-got n (Some x) (Some a) within here some exact =
      let inside = simp length-take at here.3.0 in
      let lt : n < closed = omega arith in
      ap (λ (t : Told). Ok t) (exact x a some ∙ ap (λ (r : PageRecord). told hint (kept r)) (here.1 ∙ get_or-take closed table n x.now lt)) ∙ told-page n x.now lt within

  pub column-record : (r : PageRecord) → kept r ≡ merged_from empty_record (map kept (take closed table)) → kept r ≡ record_at hint s Column
  column-record r e = e ∙ ap₂ merged_from (no_shapes hint) k.records

-- ---- the promises on the answers themselves
pub told-truly : (b : Book) (g : Target) (r : Result Told Fault) → ((s : Standing) → KeptBy s b → r ≡ tells (hint_of b) s g) → ToldTruly b g r
told-truly b g r answers t column is h k =
    let s = standing (size b) h in
    tells-truly (hint_of b) s b.pending.now.hint.held k.held t (ap (tells (hint_of b) s) (sym column) ∙ sym (answers s k) ∙ is)
