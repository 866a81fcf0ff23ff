-- What the sources over what a script gives mean.
use Rattle.std.specs.Prelude.{ℕ, ◌/◌, length}
use Rattle.shapes.specs.Pending.{shape_of}
use Rattle.shapes.specs.Source.{Shape, exchanged, tabled}
use Rattle.script.specs.declared.source.Source.{Source}
use Rattle.script.specs.declared.source.Source.TheVariants.{Bytes, Swapped, Table}

-- the code and the coordinates still to come
abbrev pub means : Source → Shape
means (Bytes c) = shape_of c
means (Swapped s) = exchanged (shape_of s.inner)
means (Table t) = tabled t.code t.rest.now

-- what `left` answers
abbrev pub room : Source → ℕ
room (Bytes c) = length c.rest.now / 16
room (Swapped s) = length s.inner.rest.now / 16
room (Table t) = length t.rest.now
