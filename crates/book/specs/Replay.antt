-- A list of calls on one new book: what each is answered, and what holds after each.
use Rattle.std.specs.Prelude.{◌≡◌, ℕ, ◌<◌, ◌≤◌, min, Bool, List, [], ◌∷◌, map, length, take, drop, Ok, Err, vec_items, Result, slice_index_or}
use Rattle.interval.specs.declared.fault.Fault.{Fault}
use Rattle.interval.specs.Laws.{Set}
use Rattle.interval.specs.Pairs.{Pair}
use Rattle.shapes.specs.Source.{Shape}
use Rattle.shapes.specs.Wkb.{decode}
use Rattle.bounding.specs.declared.records.Answer.{Answer}
use Rattle.bounding.specs.declared.records.PageRecord.{PageRecord}
use Rattle.bounding.specs.Told.{Told}
use Rattle.book.specs.declared.requests.Request.{Request}
use Rattle.book.specs.declared.requests.Request.TheVariants.{Opening, Retaking, Adding, AddingBytes, Closing, Discarding, Telling, Sifting}
use Rattle.book.specs.declared.requests.Done.{Done}
use Rattle.book.specs.declared.states.Asked.TheVariants.{Open, Retake, Add, Close, Discard}
use Rattle.book.specs.declared.states.Target.TheVariants.{Column}
use Rattle.book.specs.declared.states.Verdict.{Verdict}
use Rattle.book.specs.declared.states.Verdict.TheVariants.{Skip}
use Rattle.book.specs.Answers.{brought_by, told_by}
use Rattle.book.specs.Keeping.{Written}
use Rattle.book.specs.Replied.{Reply}
use Rattle.book.specs.Promises.{tells, NoneMeets, TellsAll, SkippedHoldsNoMeetingRun, ColumnIgnoresOrderAndCopies}
use Rattle.book.specs.Standing.{Standing, Call, moves, asks, start, step, standing, verdict}
use Rattle.book.specs.Verdicts.{frame_of}
use Rattle.book.specs.Windows.{Sifted}

-- what a call of the list does to what stands
abbrev pub called : {K S : Type 0} → (S → Shape) → Request K S → Call
called means Opening = moves Open (Ok [])
called means (Retaking n) = moves (Retake n) (Ok [])
called means (Adding p x) = moves (Add p) (Ok (means x ∷ []))
called means (AddingBytes p b) = moves (Add p) (brought_by (decode (vec_items b)))
called means (Closing p) = moves (Close p) (Ok [])
called means (Discarding p) = moves (Discard p) (Ok [])
called means (Telling g) = asks
called means (Sifting g w) = asks

-- a granted call's reply, or the refusal
abbrev pub reply : {D : Type 0} → Done → Result D Fault → Reply
reply a (Ok d) = Ok a
reply a (Err f) = Err f

abbrev pub telling : Result Answer Fault → Reply
telling (Ok a) = Ok (Done.Told a)
telling (Err f) = Err f

abbrev pub sifting : Result Verdict Fault → Reply
sifting (Ok v) = Ok (Done.Sifted v)
sifting (Err f) = Err f

-- The answer that is defined, from the hint, the table's length and what stands. A skip holds no meeting run, and what is told of the column does not depend on order or copies.
abbrev pub Replies : {K S : Type 0} → Bool → (K → Set) → (S → Shape) → Pair → ℕ → Standing → Request K S → Reply → Type 0
Replies wrapping covers means hint len s Opening a = a ≡ reply (Done.Opened (length s.pages)) (verdict len s Open (Ok []))
Replies wrapping covers means hint len s (Retaking n) a = a ≡ reply (Done.Opened n) (verdict len s (Retake n) (Ok []))
Replies wrapping covers means hint len s (Adding p x) a = a ≡ reply Done.Added (verdict len s (Add p) (Ok (means x ∷ [])))
Replies wrapping covers means hint len s (AddingBytes p b) a = a ≡ reply Done.Added (verdict len s (Add p) (brought_by (decode (vec_items b))))
Replies wrapping covers means hint len s (Closing p) a = a ≡ reply (Done.Closed p) (verdict len s (Close p) (Ok []))
Replies wrapping covers means hint len s (Discarding p) a = a ≡ reply (Done.Discarded p) (verdict len s (Discard p) (Ok []))
Replies wrapping covers means hint len s (Telling g) a =
    (r : Result Answer Fault) × (a ≡ telling r) × (told_by r ≡ tells hint s g) × ((t : Told) → g ≡ Column → told_by r ≡ Ok t → TellsAll hint s t)
Replies wrapping covers means hint len s (Sifting g w) a =
    (r : Result Verdict Fault) × (a ≡ sifting r) × Sifted wrapping (frame_of covers w) g (tells hint s g) r × (r ≡ Ok Skip → NoneMeets (frame_of covers w) s g)

-- what stands after the first k calls
abbrev pub after_first : {K S : Type 0} → (S → Shape) → ℕ → List (Request K S) → ℕ → Standing
after_first means len requests k = standing len (map (called means) (take k requests))

-- the table is written call after call, as each defines
unfoldable pub Runs : Pair → ℕ → Standing → List Call → List PageRecord → List PageRecord → Type 0
Runs hint len s [] t u = u ≡ t
Runs hint len s (c ∷ cs) t u = (v : List PageRecord) × Written hint len s c t v × Runs hint len (step len s c) cs v u

-- The whole of a replay: as many calls as there is room for replies, each answered as defined, and both promises at the start and after each call. The other replies are as they were given.
pub record Replayed {K S : Type 0} (wrapping : Bool) (covers : K → Set) (means : S → Shape) (hint : Pair) (requests : List (Request K S)) (given replies : List Reply) (n : ℕ) (before after : List PageRecord) : Type 0 where
  pub all : n ≡ min (length requests) (length replies)
  pub answered : (k : ℕ) → k < n → Replies wrapping covers means hint (length before) (after_first means (length before) requests k) (slice_index_or requests k Opening) (slice_index_or replies k (Ok Done.Added))
  pub unanswered : drop n replies ≡ drop n given
  pub written : Runs hint (length before) start (map (called means) (take n requests)) before after
  pub skips : (k : ℕ) → k ≤ n → SkippedHoldsNoMeetingRun hint (after_first means (length before) requests k)
  pub tells : (k : ℕ) → k ≤ n → ColumnIgnoresOrderAndCopies hint (after_first means (length before) requests k)
