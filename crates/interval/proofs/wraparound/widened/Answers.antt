use Rattle.std.proofs.Common.{◌≡◌, true, false, arith}
use Rattle.interval.specs.Pairs.{ends}
use Rattle.interval.specs.Wraparound.{widened, widens_lower}
use Rattle.interval.proofs.wraparound.widened.Goals as goal

pub returns-then-widens_lower : goal.returns-then-widens_lower
unfolding widened
returns-then-widens_lower c =
    let w : widens_lower (ends c.args.wrapping.now) (ends c.args.other.now) ≡ true = grind arith in
    rw w (grind arith)

pub returns-else-widens_lower : goal.returns-else-widens_lower
unfolding widened
returns-else-widens_lower c =
    let w : widens_lower (ends c.args.wrapping.now) (ends c.args.other.now) ≡ false = grind arith in
    rw w (grind arith)
