-- The steps of a cursor between two coordinates.
use Rattle.std.specs.Prelude.{◌≡◌, ℕ, ◌+◌, ◌-◌, ◌<◌, ◌≤◌, true, false, List, [], ◌∷◌, ◌++◌, length, Some, None, Option, MatchOption, slice_index}
use Rattle.std.specs.List.{AllByRecursion}
use Rattle.shapes.specs.declared.endian.Endian.{Endian}
use Rattle.shapes.specs.declared.code.Kind.{Kind}
use Rattle.shapes.specs.declared.coord.Coord.{Coord}
use Rattle.shapes.specs.declared.hulls.Hulls.{Hulls}
use Rattle.shapes.specs.declared.state.Cursor.{Cursor}
use Rattle.shapes.specs.Wkb.{body, shape}
use Rattle.shapes.specs.Hulls.{four, none, with_all}
use Rattle.shapes.specs.Pending.{parts, still}
use Rattle.shapes.specs.Source.{InBinary64}

-- what falls with each step
abbrev pub effort : Cursor → ℕ
effort s = length s.rest.now + s.depth

-- no ring and no point of a shape is to come
pub record Between (s : Cursor) : Type 0 where
  pub rings : slice_index s.counts 31 ≡ 0
  pub points : slice_index s.counts 32 ≡ 0

-- b is the cursor a moved on, with no coordinate given
pub record Moves (a b : Cursor) : Type 0 where
  pub same : still b ≡ still a
  pub less : effort b < effort a
  pub shorter : length b.rest.now ≤ length a.rest.now
  pub code : b.code ≡ a.code

-- the cursor a moved on to b, or nothing is to come from it
abbrev pub Stepped : Option (Unit {0}) → Cursor → Cursor → Type 0
Stepped r a b = MatchOption r (still a ≡ []) (λ _. Moves a b)

-- the coordinates of a shape of kind q whose header was just read, and of what follows it
unfoldable pub entered : Cursor → Endian → Kind → List ℕ → List Coord
entered s o q after = (body o s.code.dim (shape (31 - s.depth) (Some (record { kind = q; dim = s.code.dim }))) q (parts s.code.dim s.inner s.counts s.depth) after).coords

-- b is the cursor a that went into that shape
pub record Enters (a b : Cursor) (o : Endian) (q : Kind) (after : List ℕ) : Type 0 where
  pub same : still b ≡ entered a o q after
  pub less : effort b ≤ length after + a.depth + 1
  pub shorter : length b.rest.now ≤ length after
  pub code : b.code ≡ a.code

-- b is the cursor a moved on to its next coordinate
pub record Settles (a b : Cursor) : Type 0 where
  pub same : still b ≡ still a
  pub ready : 0 < slice_index b.counts 32
  pub shorter : length b.rest.now ≤ length a.rest.now
  pub code : b.code ≡ a.code

-- the cursor a gave x and is b
pub record Given (a : Cursor) (x : Coord) (b : Cursor) : Type 0 where
  pub first : still a ≡ x ∷ still b
  pub code : b.code ≡ a.code
  pub lower : length b.rest.now + 16 ≤ length a.rest.now

-- the next coordinate of a, or none and nothing altered
abbrev pub Gave : Option Coord → Cursor → Cursor → Type 0
Gave None a b = (still a ≡ []) × (b ≡ a)
Gave (Some x) a b = Given a x b

-- ---- whole runs

-- the first coordinate, if there is one, joins nothing
abbrev pub Fresh : List Coord → Type 0
Fresh [] = Unit {0}
Fresh (c ∷ cs) = c.joins ≡ false

-- The cursor a gave the hulls h of its next run, up to the next coordinate that does not join, and is b.
pub record Took (a : Cursor) (h : Hulls) (b : Cursor) : Type 0 where
  pub first : Coord
  pub others : List Coord
  pub run : still a ≡ first ∷ (others ++ still b)
  pub joined : AllByRecursion (λ c. c.joins ≡ true) others
  pub ended : Fresh (still b)
  pub hulls : four h ≡ with_all none (first ∷ others)
  pub held : AllByRecursion InBinary64 (still a)
  pub code : b.code ≡ a.code

-- the next run of a, or nothing is to come
abbrev pub TookRun : Option Hulls → Cursor → Cursor → Type 0
TookRun None a b = still a ≡ []
TookRun (Some h) a b = Took a h b
