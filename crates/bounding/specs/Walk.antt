-- The program's values as the definitions have them, and the walk over a shape's coordinates, which keeps the four hulls of the run that is read.
use Rattle.std.specs.Prelude.{◌≡◌, ℕ, cond, List, [], ◌∷◌, ◌++◌, Some, None, Option, bit_or, Float}
use Rattle.interval.specs.declared.kinds.Interval.{Interval}
use Rattle.interval.specs.declared.kinds.WraparoundInterval.{WraparoundInterval}
use Rattle.interval.specs.Pairs.{Pair, ends, inner_ends, nothing}
use Rattle.interval.specs.Ordinary.{merged}
use Rattle.shapes.specs.declared.coord.Coord.{Coord}
use Rattle.shapes.specs.Hulls.{Four, none, with}
use Rattle.shapes.specs.Source.{Shape}
use Rattle.shapes.specs.Wkb.{code_at, coords_in, decode, read}
use Rattle.bounding.specs.Laws.{HeldCoords}
use Rattle.bounding.specs.Record.{Kept, record_of, below, above, across}
use Rattle.bounding.specs.Told.{Told}
use Rattle.bounding.specs.declared.records.PageRecord.{PageRecord}
use Rattle.bounding.specs.declared.records.Answer.{Answer}

abbrev pub kept : PageRecord → Kept
kept r =
    record {
      left = ends r.x_left;
      mid = ends r.x_mid;
      right = ends r.x_right;
      y = ends r.y;
      z = ends r.z;
      m = ends r.m;
      codes = r.codes.bits;
    }

abbrev pub optional : Option Interval → Option Pair
optional None = None
optional (Some i) = Some (ends i)

abbrev pub optional_inner : Option WraparoundInterval → Option Pair
optional_inner None = None
optional_inner (Some w) = Some (inner_ends w)

abbrev pub answer : Answer → Told
answer a = record { x = optional_inner a.x; y = optional a.y; z = optional a.z; m = optional a.m; codes = a.codes.bits }

-- what a bounder with the hint h keeps, once it has been given one shape more
abbrev pub Adds : Pair → Kept → Shape → Kept → Type 0
Adds h k s l = (ss : List Shape) → k ≡ record_of h ss → l ≡ record_of h (ss ++ s ∷ [])

-- the same for the shape that the bytes b decode to
abbrev pub Counts : Pair → Kept → List ℕ → Kept → Type 0
Counts h k b l = (decode b ≡ read (code_at b) (coords_in b)) × Adds h k (record { code = code_at b; coords = coords_in b }) l × HeldCoords (coords_in b)

-- ---- the walk

-- a run with these hulls is over
abbrev pub settle : Float → Kept → Four → Kept
settle t k h =
    record {
      left = cond (below t h.x) (merged k.left h.x) k.left;
      mid = cond (across t h.x) (merged k.mid h.x) k.mid;
      right = cond (above t h.x) (merged k.right h.x) k.right;
      y = merged k.y h.y;
      z = merged k.z h.z;
      m = merged k.m h.m;
      codes = k.codes;
    }

unfoldable pub walk : Float → Kept → Four → List Coord → Kept
walk t k h [] = settle t k h
walk t k h (c ∷ cs) = cond c.joins (walk t k (with h c) cs) (walk t (settle t k h) (with none c) cs)

-- the code of a shape that was walked
abbrev pub mark : Kept → ℕ → Kept
mark k n = record { left = k.left; mid = k.mid; right = k.right; y = k.y; z = k.z; m = k.m; codes = bit_or k.codes n }

abbrev pub empty_record : Kept
empty_record = record { left = nothing; mid = nothing; right = nothing; y = nothing; z = nothing; m = nothing; codes = 0 }
