use Rattle.std.proofs.Common.{◌≡◌, ◌||◌, T, sym, ◌∙◌, subst}
use Rattle.interval.specs.Pairs.{inner_ends}
use Rattle.interval.specs.Ordinary as Ordinary
use Rattle.interval.specs.Wraparound.{meets}
use Rattle.interval.proofs.Covers.{meets-always, meets-only}
use Rattle.interval.proofs.wraparound.WraparoundIntervalIntervalTrait.intersects_interval.Goals as goal

pub returns : goal.returns
unfolding meets
returns c =
    let s = c.args.self.now in
    let o = c.args.other.now in
    let a = c.split.ensures in
    let b = c.split-2.ensures in
    let exact : (c.intersects_interval.result || c.intersects_interval-2.result || c.intersects_interval-3.result || c.intersects_interval-4.result) ≡ meets (inner_ends s) (inner_ends o) =
    (λ i. c.intersects_interval.ensures.exact i || c.intersects_interval-2.ensures.exact i || c.intersects_interval-3.ensures.exact i || c.intersects_interval-4.ensures.exact i)
    ∙ (λ i. Ordinary.meets (a.left i) (b.left i) || Ordinary.meets (a.left i) (b.right i) || Ordinary.meets (a.right i) (b.left i) || Ordinary.meets (a.right i) (b.right i)) in
    record {
      law = record {
        always = λ k. subst T (sym exact) (meets-always (inner_ends s) (inner_ends o) s.inner.held o.inner.held k);
        only = λ r. meets-only (inner_ends s) (inner_ends o) s.inner.held o.inner.held (subst T exact r);
      };
      exact = exact;
    }
