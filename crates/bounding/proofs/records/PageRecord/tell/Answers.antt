use Rattle.std.proofs.Common.{◌≡◌, Bool, true, false, cond, Some, None, Option, sym, refl, ap, ◌∙◌, subst, ap₂}
use Rattle.interval.specs.declared.kinds.Interval.{Interval}
use Rattle.interval.specs.Pairs.{Pair, ends, inner_ends, empty}
use Rattle.bounding.specs.declared.records.Answer.{Answer}
use Rattle.bounding.specs.declared.records.PageRecord.{PageRecord}
use Rattle.bounding.specs.Runs.{runs_of}
use Rattle.bounding.specs.Told.{Told, told, shown}
use Rattle.bounding.specs.Laws.{HeldKept, Tells, CoversAll, Takable, AlikeTold}
use Rattle.bounding.specs.Walk.{kept, answer, optional, optional_inner}
use Rattle.bounding.specs.Record.{record_of}
use Rattle.bounding.proofs.Gathers.{record-plain, keeps-members}
use Rattle.bounding.proofs.Covers.{tells-covering}
use Rattle.bounding.proofs.Ordinates.{keeps-held}
use Rattle.bounding.proofs.Alikes.{told-alike}
use Rattle.bounding.proofs.Takes.{tells-takable}
use Rattle.bounding.proofs.records.PageRecord.tell.Goals as goal

kept-held : (r : PageRecord) → HeldKept (kept r)
kept-held r = record { left = r.x_left.held; mid = r.x_mid.held; right = r.x_right.held; y = r.y.held; z = r.z.held; m = r.m.held }

tells : (h : Interval) (r : PageRecord) (t : Told) → t ≡ told (ends h) (kept r) → Tells (ends h) (kept r) t
tells h r t e ss is =
    let k = subst HeldKept is (kept-held r) in
    let p = e ∙ ap (told (ends h)) is in
    record {
      covers = subst (CoversAll (runs_of ss)) (sym p) (tells-covering (ends h) ss k);
      takable = subst (λ (u : Told). Takable u.x) (sym p) (tells-takable (ends h) ss h.held k);
      members = λ others O s. subst (λ (u : Told). AlikeTold u (told (ends h) (record_of (ends h) others))) (sym p) (told-alike (ends h) (record_of (ends h) ss) (record_of (ends h) others) h.held k (keeps-held (ends h) others O) (record-plain (ends h) ss) (record-plain (ends h) others) (keeps-members (ends h) ss others s));
    }

-- an axis that is shown, as its pair
shown-as : {A : Type 0} (pairs : Option A → Option Pair) (view : A → Pair) (b : Pair) (a : A) → pairs None ≡ None → pairs (Some a) ≡ Some (view a) → pairs (cond (empty b) None (Some a)) ≡ shown b (view a)
shown-as pairs view b a none some = go (empty b)
  where
    go : (e : Bool) → pairs (cond e None (Some a)) ≡ cond e None (Some (view a))
    go true = none
    go false = some

pub returns : goal.returns
returns c =
    let r = c.args.self.now in
    let a : Answer = record { x = c.shown.result; y = c.shown-2.result; z = c.shown-3.result; m = c.shown-4.result; codes = r.codes } in
    let e : answer a ≡ told (ends c.args.hint.now) (kept r) =
    λ i. record {
      x = (ap optional_inner c.shown.ensures ∙ shown-as optional_inner inner_ends (ends c.all-all.result) c.x-x.result refl refl ∙ ap₂ shown c.all-all.ensures c.x-x.ensures) i;
      y = (ap optional c.shown-2.ensures ∙ shown-as optional ends (ends r.y) r.y refl refl) i;
      z = (ap optional c.shown-3.ensures ∙ shown-as optional ends (ends r.z) r.z refl refl) i;
      m = (ap optional c.shown-4.ensures ∙ shown-as optional ends (ends r.m) r.m refl refl) i;
      codes = r.codes.bits;
    } in
    record { exact = e; law = tells c.args.hint.now r (answer a) e }
