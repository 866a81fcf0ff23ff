-- The ends of a record are ordinates of its shapes, so an f64 holds them.
use Rattle.std.proofs.Common.{Bool, true, false, List, [], ◌∷◌, refl, subst}
use mathlib.Core.List.Memᴰ
use mathlib.Core.List.{Memᴰ}
use lib.Ieee.{binary64}
use lib.Ieee.Fits.{inf-fits}
use Rattle.std.proofs.lemmas.Bool.{cond_both}
use Rattle.number.specs.Values.{Held}
use Rattle.interval.specs.Pairs.{Pair, pair, nothing}
use Rattle.shapes.specs.declared.coord.Coord.{Coord}
use Rattle.shapes.specs.Source.{Shape, InBinary64}
use Rattle.bounding.specs.Runs.{Run, Axis, runs, runs_of, hull, gather, xs, ys, zs, ms}
use Rattle.bounding.specs.Record.{record_of, divide, below, above, across, every}
use Rattle.bounding.specs.Laws.{concat, HeldShapes, HeldEnds, HeldKept}
use Rattle.bounding.proofs.Gathers.{run-from}
use Rattle.bounding.proofs.Exact.{runs-exact}
use Rattle.interval.proofs.Between.{merged-ends}

-- ---- ordinates of runs
in_concat : (c : Coord) {r : Run} {rs : List Run} → Memᴰ r rs → Memᴰ c r → Memᴰ c (concat rs)
unfolding concat
in_concat c (Memᴰ.head {x = q} {xs = rs} e) n = Memᴰ.append_left (concat rs) (subst (λ (z : Run). Memᴰ c z) e n)
in_concat c (Memᴰ.tail {x = q} {xs = rs} m) n = Memᴰ.append_right q (in_concat c m n)

in_run : (c : Coord) (r : Run) (cs : List Coord) → Memᴰ r (runs cs) → Memᴰ c r → Memᴰ c cs
in_run c r cs m n = subst (λ (l : List Coord). Memᴰ c l) (runs-exact cs).0 (in_concat c m n)

abbrev pub HeldRuns : Axis → List Run → Type 0
HeldRuns f rs = (r : Run) → Memᴰ r rs → (c : Coord) → Memᴰ c r → Held (f c)

pub held-runs : (ss : List Shape) → HeldShapes ss → (f : Axis) → ((c : Coord) → InBinary64 c → Held (f c)) → HeldRuns f (runs_of ss)
held-runs ss h f g r m c n = let k = run-from r ss m in g c (h k.0 k.1 c (in_run c r k.0.coords k.2 n))

nothing-held : HeldEnds nothing
nothing-held = (inf-fits binary64 false, inf-fits binary64 true)

hull-held : (f : Axis) (r : Run) → ((c : Coord) → Memᴰ c r → Held (f c)) → HeldEnds (hull f r)
unfolding hull
hull-held f [] h = nothing-held
hull-held f (c ∷ cs) h = merged-ends (pair (f c) (f c)) (hull f cs) (h c (Memᴰ.head refl), h c (Memᴰ.head refl)) (hull-held f cs (λ d m. h d (Memᴰ.tail m)))

pub gather-held : (f : Axis) (p : Pair → Bool) (rs : List Run) → HeldRuns f rs → HeldEnds (gather f p rs)
unfolding gather
gather-held f p [] h = nothing-held
gather-held f p (r ∷ rs) h =
    let rest = gather-held f p rs (λ q m. h q (Memᴰ.tail m)) in
    cond_both (p (hull f r)) _ _ HeldEnds (λ _. merged-ends (hull f r) (gather f p rs) (hull-held f r (h r (Memᴰ.head refl))) rest) (λ _. rest)

pub keeps-held : (h : Pair) (ss : List Shape) → HeldShapes ss → HeldKept (record_of h ss)
keeps-held h ss held =
    let x = held-runs ss held xs (λ c k. k.0) in
    record {
      left = gather-held xs (below (divide h)) (runs_of ss) x;
      mid = gather-held xs (across (divide h)) (runs_of ss) x;
      right = gather-held xs (above (divide h)) (runs_of ss) x;
      y = gather-held ys every (runs_of ss) (held-runs ss held ys (λ c k. k.1));
      z = gather-held zs every (runs_of ss) (held-runs ss held zs (λ c k. k.2));
      m = gather-held ms every (runs_of ss) (held-runs ss held ms (λ c k. k.3));
    }
