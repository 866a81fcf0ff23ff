use Rattle.std.proofs.Common.{◌≡◌, true, arith}
use Rattle.interval.specs.Pairs.{wraps, inner_ends}
use Rattle.interval.proofs.Literals.{highest-bits, lowest-bits}
use Rattle.interval.proofs.kinds.WraparoundInterval.split.Goals as goal

pub returns-then-is_wraparound : goal.returns-then-is_wraparound
returns-then-is_wraparound c =
    let w : wraps (inner_ends c.args.self.now) ≡ true = grind arith in
    record { left = rw (w, lowest-bits); right = rw (w, highest-bits) }
