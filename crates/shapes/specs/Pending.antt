-- What a cursor over bytes has still to give: its pending counts are themselves a reader.
use Rattle.std.specs.Prelude.{◌≡◌, ℕ, zero, suc, ◌-◌, Bool, List, Some, slice_index}
use Rattle.shapes.specs.declared.endian.Endian.{Endian}
use Rattle.shapes.specs.declared.code.Kind.{Kind}
use Rattle.shapes.specs.declared.code.Kind.TheVariants.{Collection}
use Rattle.shapes.specs.declared.code.Dimension.{Dimension}
use Rattle.shapes.specs.declared.code.Code.{Code}
use Rattle.shapes.specs.declared.coord.Coord.{Coord}
use Rattle.shapes.specs.declared.state.Cursor.{Cursor}
use Rattle.shapes.specs.Source.{Shape}
use Rattle.shapes.specs.Wkb.{Reader, points, line, times, shape, finish, decode, read}

-- The parts that open containers have still to come. The innermost of them, of kind q, has its count at depth - 1; only a collection holds containers.
unfoldable pub parts : Dimension → Kind → List ℕ → ℕ → Reader
parts d q counts zero = finish
parts d q counts (suc depth) = times (shape (31 - depth) (Some (record { kind = q; dim = d }))) (slice_index counts depth) (parts d Collection counts depth)

-- The points of the current line or ring, then the polygon's further rings, then the parts.
abbrev pub pending : Endian → Dimension → Bool → Kind → List ℕ → ℕ → Reader
pending o d j q counts depth = points o d j (slice_index counts 32) (times (line o d) (slice_index counts 31) (parts d q counts depth))

-- the coordinates that a cursor has still to give
unfoldable pub still : Cursor → List Coord
still s = (pending s.order s.code.dim s.joins s.inner s.counts s.depth s.rest.now).coords

-- what a cursor means
abbrev pub shape_of : Cursor → Shape
shape_of s = record { code = s.code; coords = still s }

-- s stands before the first coordinate of the bytes b: it means what they decode to
abbrev pub Opens : List ℕ → Cursor → Type 0
Opens b s = (c : Code) (cs : List Coord) → decode b ≡ read c cs → shape_of s ≡ record { code = c; coords = cs }
