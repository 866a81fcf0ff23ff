-- The hulls of a run on the four axes.
use Rattle.std.specs.Prelude.{List, [], ◌∷◌}
use Rattle.interval.specs.Pairs.{Pair, ends, nothing}
use Rattle.interval.specs.Ordinary.{with_value}
use Rattle.shapes.specs.declared.coord.Coord.{Coord}
use Rattle.shapes.specs.declared.hulls.Hulls.{Hulls}

pub record Four : Type 0 where
  pub x : Pair
  pub y : Pair
  pub z : Pair
  pub m : Pair

abbrev pub four : Hulls → Four
four h = record { x = ends h.x; y = ends h.y; z = ends h.z; m = ends h.m }

-- of no coordinate
abbrev pub none : Four
none = record { x = nothing; y = nothing; z = nothing; m = nothing }

-- with one coordinate more
abbrev pub with : Four → Coord → Four
with h c = record { x = with_value h.x c.x; y = with_value h.y c.y; z = with_value h.z c.z; m = with_value h.m c.m }

-- with these coordinates more
unfoldable pub with_all : Four → List Coord → Four
with_all h [] = h
with_all h (c ∷ cs) = with_all (with h c) cs
