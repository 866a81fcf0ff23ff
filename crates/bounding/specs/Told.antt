-- What is told of a record under a hint.
use Rattle.std.specs.Prelude.{ℕ, Bool, cond, not, ◌||◌, Some, None, Option, Float}
use Rattle.std.specs.Bool.{beq}
use Rattle.std.specs.Float.{binary64}
use Rattle.std.specs.Float.Ieee.{add, sub, lt}
use Rattle.interval.specs.Pairs.{Pair, pair, width, empty}
use Rattle.interval.specs.Ordinary.{merged, contains}
use Rattle.bounding.specs.Record.{Kept}

abbrev pub all : Kept → Pair
all k = merged (merged k.left k.mid) k.right

-- what a wrapping pair takes up of the hint at its two ends, each step rounded once
unfoldable pub outer : Pair → Kept → Float
outer h k = add binary64 (sub binary64 k.left.hi h.lo) (sub binary64 h.hi k.right.lo)

-- x is told as all: a hull lies across the middle, the hint does not contain all, just one half has values, or all is narrower
unfoldable pub ordinary : Pair → Kept → Bool
unfolding outer
ordinary h k = not (empty k.mid) || not (contains h (all k)) || not (beq (empty k.left) (empty k.right)) || lt (width (all k)) (outer h k)

abbrev pub told_x : Pair → Kept → Pair
told_x h k = cond (ordinary h k) (all k) (pair k.right.lo k.left.hi)

-- e, unless b is empty
abbrev pub shown : Pair → Pair → Option Pair
shown b e = cond (empty b) None (Some e)

pub record Told : Type 0 where
  pub x : Option Pair
  pub y : Option Pair
  pub z : Option Pair
  pub m : Option Pair
  pub codes : ℕ

-- an axis without values is left out
abbrev pub told : Pair → Kept → Told
told h k = record { x = shown (all k) (told_x h k); y = shown k.y k.y; z = shown k.z k.z; m = shown k.m k.m; codes = k.codes }
