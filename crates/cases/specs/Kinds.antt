-- Worked cases of the two kinds of bounds.
use Rattle.std.specs.Prelude.{true, false, List, [], ◌∷◌, Some, None, from_bits, Float}
use Rattle.std.specs.Float.{inf, binary64}
use Rattle.interval.specs.Pairs.{Pair, pair, nothing, everything}
use Rattle.interval.specs.Ordinary as Ordinary
use Rattle.interval.specs.Wraparound as Wraparound
use Rattle.interval.specs.declared.fault.Cause.TheVariants.{Downward}
use Rattle.interval.specs.Faults.{at}
use Rattle.interval.specs.Laws.{refusal}
use Rattle.cases.specs.Case.{Case, case, flag, number, bounds, refused, plus, minus}

-- 1e308
abbrev huge : Float
huge = from_bits binary64 0x7fe1ccf385ebc8a0

abbrev minus_huge : Float
minus_huge = from_bits binary64 0xffe1ccf385ebc8a0

-- from 170 on, and up to -170
abbrev dateline : Pair
dateline = pair (plus 170) (minus 170)

abbrev outside_ten : Pair
outside_ten = pair (plus 10) (minus 10)

abbrev pub kinds : List Case
kinds =
    case (flag (Ordinary.meets nothing everything)) (flag true)
    ∷ case (flag (Wraparound.meets nothing everything)) (flag true)
    ∷ case (flag (Wraparound.contains outside_ten (pair (minus 30) (minus 20)))) (flag true)
    ∷ case (flag (Wraparound.contains outside_ten (pair (plus 20) (plus 30)))) (flag true)
    ∷ case (flag (Wraparound.contains everything outside_ten)) (flag true)
    ∷ case (bounds (Wraparound.with_value dateline (plus 0))) (bounds (pair (plus 0) (minus 170)))
    ∷ case (bounds (Wraparound.merged dateline (pair (plus 100) (plus 120)))) (bounds (pair (plus 100) (minus 170)))
    ∷ case (bounds (Wraparound.merged dateline (pair (inf true) (minus 200)))) (bounds dateline)
    ∷ case (number (Ordinary.middle (pair minus_huge huge))) (number (plus 0))
    ∷ case (number (Wraparound.middle (pair minus_huge huge))) (number (plus 0))
    ∷ case (bounds (Wraparound.expanded dateline (plus 169))) (bounds (pair (plus 1) (minus 1)))
    ∷ case (bounds (Wraparound.expanded dateline (plus 170))) (bounds everything)
    ∷ case (flag (Wraparound.meets (pair (plus 179) (minus 179)) (pair (plus 0) (plus 10)))) (flag false)
    ∷ case (refused (refusal true (pair (plus 179) (minus 179)))) (refused None)
    ∷ case (refused (refusal false (pair (plus 179) (minus 179)))) (refused (Some (at Downward 0)))
    ∷ []
