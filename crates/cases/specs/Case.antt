-- A worked case: what a definition gives, beside what the rules say.
use Rattle.std.specs.Prelude.{ℕ, pred, Bool, List, pos, negsuc, Option, Float}
use Rattle.std.specs.Float.{binary64}
use Rattle.std.specs.Float.Ieee.{of_int}
use Rattle.interval.specs.declared.fault.Fault.{Fault}
use Rattle.interval.specs.Pairs.{Pair}
use Rattle.shapes.specs.Wkb.{Decoded}

pub data Answer : Type 0 where
  flag : Bool → Answer
  number : Float → Answer
  bounds : Pair → Answer
  axis : Option Pair → Answer
  decoded : Decoded → Answer
  bytes : List ℕ → Answer
  refused : Option Fault → Answer

pub record Case : Type 0 where
  pub told : Answer
  pub wanted : Answer

abbrev pub case : Answer → Answer → Case
case t w = record { told = t; wanted = w }

-- the whole numbers k and -k, the latter for k above 0
abbrev pub plus : ℕ → Float
plus k = of_int binary64 (pos k)

abbrev pub minus : ℕ → Float
minus k = of_int binary64 (negsuc (pred k))
