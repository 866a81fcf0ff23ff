-- The runs of a shape's coordinates, and their hulls.
use Rattle.std.specs.Prelude.{Bool, cond, List, [], ◌∷◌, ◌++◌, Float}
use Rattle.interval.specs.Pairs.{Pair, pair, nothing}
use Rattle.interval.specs.Ordinary.{merged}
use Rattle.shapes.specs.declared.coord.Coord.{Coord}
use Rattle.shapes.specs.Source.{Shape}

-- A run is a list's first coordinate, or one that does not join, with those that join after it.
abbrev pub Run : Type 0
Run = List Coord

-- the coordinates at the front that join
unfoldable pub joining : List Coord → Run
joining [] = []
joining (c ∷ cs) = cond c.joins (c ∷ joining cs) []

-- the runs that begin at a coordinate that does not join
unfoldable pub later : List Coord → List Run
unfolding joining
later [] = []
later (c ∷ cs) = cond c.joins (later cs) ((c ∷ joining cs) ∷ later cs)

unfoldable pub runs : List Coord → List Run
unfolding later
runs [] = []
runs (c ∷ cs) = (c ∷ joining cs) ∷ later cs

-- the runs of all these shapes
unfoldable pub runs_of : List Shape → List Run
unfolding runs
runs_of [] = []
runs_of (s ∷ ss) = runs s.coords ++ runs_of ss

abbrev pub Axis : Type 0
Axis = Coord → Float

abbrev pub xs : Axis
xs c = c.x

abbrev pub ys : Axis
ys c = c.y

abbrev pub zs : Axis
zs c = c.z

abbrev pub ms : Axis
ms c = c.m

-- from the least value of the run to the greatest, a NaN being none
unfoldable pub hull : Axis → Run → Pair
hull f [] = nothing
hull f (c ∷ cs) = merged (pair (f c) (f c)) (hull f cs)

-- the hulls that pass the test, merged
unfoldable pub gather : Axis → (Pair → Bool) → List Run → Pair
unfolding hull
gather f p [] = nothing
gather f p (r ∷ rs) = cond (p (hull f r)) (merged (hull f r) (gather f p rs)) (gather f p rs)
