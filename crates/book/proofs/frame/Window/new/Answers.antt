use Rattle.std.proofs.Common.{false, rules}
use Rattle.number.specs.Values.{Held}
use Rattle.interval.specs.Pairs.{ends, between}
use Rattle.book.specs.Standing.{first}
use Rattle.book.specs.Verdicts.{pair_of}
use Rattle.book.proofs.Judged.{taken_inhabited, asked_inhabited}
use Rattle.book.proofs.frame.Window.new.Goals as goal

pub returns : goal.returns
returns g c =
    let x = c.in_ok-along_x.ensures in
    let y = c.in_ok-along_y.ensures in
    let z = c.in_ok-along_z.ensures in
    let m = c.in_ok-along_m.ensures in
    let hx : Held c.args.x.0 = search rules in
    let hy : Held c.args.y.0 = search rules in (
      (λ i. first (x.0 i) (first (y.law.0 i) (first (z.0 i) (m.0 i)))),
      record {
        x_set = x.1;
        y_ends = y.exact;
        z_ends = z.1;
        m_ends = m.1;
        firm = record {
          x = taken_inhabited (g.K.IntervalTrait.covers c.in_ok-along_x.along_x) g.K.IntervalTrait.WRAPS (pair_of c.args.x) hx x.0 x.1;
          y = taken_inhabited (between (ends c.in_ok-along_y.along_y)) false (pair_of c.args.y) hy y.law.0 y.law.1;
          z = asked_inhabited c.args.z c.in_ok-along_z.along_z z.0 z.1;
          m = asked_inhabited c.args.m c.in_ok-along_m.along_m m.0 m.1;
        };
      },
    )
