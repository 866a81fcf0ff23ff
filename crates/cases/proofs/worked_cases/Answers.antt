-- By computing both lists.
use Rattle.std.proofs.Common.{refl}
use lib.Ieee.{add, sub, div, le, lt, eq, is_nan, of_int, of_bits, round}
use Rattle.std.specs.Float.{float_is_finite, float_with_sign}
use Rattle.interval.specs.Pairs.{width, empty, wraps, covered}
use Rattle.interval.specs.Ordinary as Ordinary
use Rattle.interval.specs.Wraparound as Wraparound
use Rattle.shapes.specs.Numbers.{f64_at}
use Rattle.shapes.specs.Wkb as Wkb
use Rattle.shapes.specs.Tree as Tree
use Rattle.bounding.specs.Runs.{joining, later, runs, runs_of, hull, gather}
use Rattle.bounding.specs.Record.{divide, codes_of}
use Rattle.bounding.specs.Told.{outer, ordinary}
use Rattle.cases.proofs.worked_cases.Goals as goal

pub returns : goal.returns
unfolding add sub div le lt eq is_nan of_int of_bits round float_is_finite float_with_sign width empty wraps covered Ordinary.middle Ordinary.expanded Wraparound.meets Wraparound.contains Wraparound.middle Wraparound.closed Wraparound.widens_lower Wraparound.widened Wraparound.merged Wraparound.with_value Wraparound.expanded joining later runs runs_of hull gather divide codes_of outer ordinary f64_at Wkb.eights Wkb.coord Wkb.points Wkb.times Wkb.counted Wkb.body Wkb.header Wkb.shape Tree.written Tree.bytes Tree.head
returns c = refl
