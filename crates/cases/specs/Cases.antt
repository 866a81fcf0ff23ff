-- All worked cases together.
use Rattle.std.specs.Prelude.{List, ◌++◌, map}
use Rattle.cases.specs.Case.{Answer, Case}
use Rattle.cases.specs.Kinds.{kinds}
use Rattle.cases.specs.Shapes.{shapes}
use Rattle.cases.specs.Bounder.{bounder}

abbrev cases : List Case
cases = kinds ++ shapes ++ bounder

abbrev pub told : List Answer
told = map (λ c. c.told) cases

abbrev pub wanted : List Answer
wanted = map (λ c. c.wanted) cases
