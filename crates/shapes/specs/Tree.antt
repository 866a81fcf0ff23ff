-- Shapes as trees, what each is written as, and the law that bytes are read exactly when they are a writing of a tree.
use Rattle.std.specs.Prelude.{◌≡◌, ℕ, zero, suc, ◌/◌, ◌%◌, ◌^◌, ◌<◌, ◌≤◌, max, Bool, true, false, List, [], ◌∷◌, ◌++◌, reverse, length, from_bits, slice_index, Float}
use Rattle.std.specs.Float.{nan, binary64}
use Rattle.std.specs.List.{AllByRecursion, flat_map}
use Rattle.shapes.specs.declared.endian.Endian.{Endian}
use Rattle.shapes.specs.declared.endian.Endian.TheVariants.{Big, Little}
use Rattle.shapes.specs.declared.code.Kind.{Kind}
use Rattle.shapes.specs.declared.code.Kind.TheVariants.{Point, Line, Polygon, MultiPoint, MultiLine, MultiPolygon, Collection}
use Rattle.shapes.specs.declared.code.Dimension.{Dimension}
use Rattle.shapes.specs.declared.code.Dimension.TheVariants.{Xy, Xyz, Xym, Xyzm}
use Rattle.shapes.specs.declared.code.Code.{Code}
use Rattle.shapes.specs.declared.coord.Coord.{Coord}
use Rattle.shapes.specs.Codes.{width, code_number}
use Rattle.shapes.specs.Wkb.{levels, read, decode}

-- ---- trees

-- the ordinates of one point, each as its 64 bits
abbrev pub Place : Type 0
Place = List ℕ

-- what a container holds
pub data Parts : Type 0 where
  points lines polygons anything : Parts

-- a shape, each with its own byte order
mutual
  pub data Tree : Type 0 where
    point : Endian → Place → Tree
    line : Endian → List Place → Tree
    polygon : Endian → List (List Place) → Tree
    group : Endian → Parts → Trees → Tree

  pub data Trees : Type 0 where
    none : Trees
    more : Tree → Trees → Trees

abbrev pub kind_of_group : Parts → Kind
kind_of_group points = MultiPoint
kind_of_group lines = MultiLine
kind_of_group polygons = MultiPolygon
kind_of_group anything = Collection

abbrev pub kind : Tree → Kind
kind (point o p) = Point
kind (line o ps) = Line
kind (polygon o rs) = Polygon
kind (group o g ts) = kind_of_group g

-- the whole tree has one dimension
abbrev pub code : Dimension → Tree → Code
code d t = record { kind = kind t; dim = d }

abbrev pub many : Trees → ℕ
many none = 0
many (more t ts) = suc (many ts)

unfoldable mutual
  pub depth : Tree → ℕ
  depth (point o p) = 1
  depth (line o ps) = 1
  depth (polygon o rs) = 1
  depth (group o g ts) = suc (deepest ts)

  pub deepest : Trees → ℕ
  deepest none = 0
  deepest (more t ts) = max (depth t) (deepest ts)

-- ---- what a tree is written as

-- n in w bytes, the least significant first
abbrev pub little : ℕ → ℕ → List ℕ
little zero n = []
little (suc w) n = n % 256 ∷ little w (n / 256)

unfoldable pub bytes : Endian → ℕ → ℕ → List ℕ
bytes Little w n = little w n
bytes Big w n = reverse (little w n)

abbrev pub order_byte : Endian → ℕ
order_byte Big = 0
order_byte Little = 1

unfoldable pub head : Dimension → Endian → Kind → List ℕ
head d o k = order_byte o ∷ bytes o 4 (code_number (record { kind = k; dim = d }))

abbrev pub place : Endian → Place → List ℕ
place o = flat_map (bytes o 8)

-- a count and so many places
abbrev pub ring : Endian → List Place → List ℕ
ring o ps = bytes o 4 (length ps) ++ flat_map (place o) ps

unfoldable mutual
  pub written : Dimension → Tree → List ℕ
  written d (point o p) = head d o Point ++ place o p
  written d (line o ps) = head d o Line ++ ring o ps
  written d (polygon o rs) = head d o Polygon ++ (bytes o 4 (length rs) ++ flat_map (ring o) rs)
  written d (group o g ts) = head d o (kind_of_group g) ++ (bytes o 4 (many ts) ++ written_all d ts)

  pub written_all : Dimension → Trees → List ℕ
  written_all d none = []
  written_all d (more t ts) = written d t ++ written_all d ts

-- ---- its coordinates

abbrev pub float : ℕ → Float
float n = from_bits binary64 n

abbrev pub coord_of : Dimension → Bool → Place → Coord
coord_of Xy j p = record { x = float (slice_index p 0); y = float (slice_index p 1); z = nan; m = nan; joins = j }
coord_of Xyz j p = record { x = float (slice_index p 0); y = float (slice_index p 1); z = float (slice_index p 2); m = nan; joins = j }
coord_of Xym j p = record { x = float (slice_index p 0); y = float (slice_index p 1); z = nan; m = float (slice_index p 2); joins = j }
coord_of Xyzm j p = record { x = float (slice_index p 0); y = float (slice_index p 1); z = float (slice_index p 2); m = float (slice_index p 3); joins = j }

-- the first joins if j says so, the others do
unfoldable pub along : Dimension → Bool → List Place → List Coord
along d j [] = []
along d j (p ∷ ps) = coord_of d j p ∷ along d true ps

unfoldable mutual
  pub coords : Dimension → Tree → List Coord
  coords d (point o p) = coord_of d false p ∷ []
  coords d (line o ps) = along d false ps
  coords d (polygon o rs) = flat_map (along d false) rs
  coords d (group o g ts) = coords_all d ts

  pub coords_all : Dimension → Trees → List Coord
  coords_all d none = []
  coords_all d (more t ts) = coords d t ++ coords_all d ts

-- ---- well-formed trees

abbrev pub IsPlace : Dimension → Place → Type 0
IsPlace d p = (length p ≡ width d) × AllByRecursion (λ n. n < 2 ^ 64) p

abbrev pub IsRing : Dimension → List Place → Type 0
IsRing d ps = (length ps < 2 ^ 32) × AllByRecursion (IsPlace d) ps

abbrev pub MayHold : Parts → Kind → Type 0
MayHold points k = k ≡ Point
MayHold lines k = k ≡ Line
MayHold polygons k = k ≡ Polygon
MayHold anything k = Unit {0}

unfoldable mutual
  pub Good : Dimension → Tree → Type 0
  Good d (point o p) = IsPlace d p
  Good d (line o ps) = IsRing d ps
  Good d (polygon o rs) = (length rs < 2 ^ 32) × AllByRecursion (IsRing d) rs
  Good d (group o g ts) = (many ts < 2 ^ 32) × GoodAll d g ts

  pub GoodAll : Dimension → Parts → Trees → Type 0
  GoodAll d g none = Unit {0}
  GoodAll d g (more t ts) = MayHold g (kind t) × Good d t × GoodAll d g ts

pub record WellFormed (d : Dimension) (t : Tree) : Type 0 where
  pub good : Good d t
  pub shallow : depth t ≤ levels

-- ---- the law

-- b is the writing of a well-formed tree of code c and coordinates cs
pub record WritingOf (b : List ℕ) (c : Code) (cs : List Coord) : Type 0 where
  pub dim : Dimension
  pub tree : Tree
  pub well_formed : WellFormed dim tree
  pub writes : written dim tree ≡ b
  pub has_code : code dim tree ≡ c
  pub has_coords : coords dim tree ≡ cs

abbrev pub NoWriting : List ℕ → Type 0
NoWriting b = (c : Code) (cs : List Coord) → WritingOf b c cs → ⊥

-- bytes are read as a code and coordinates exactly when they are a writing of a tree that has them
pub record ReadExactly (b : List ℕ) : Type 0 where
  pub read_was_written : (c : Code) (cs : List Coord) → decode b ≡ read c cs → WritingOf b c cs
  pub written_is_read : (c : Code) (cs : List Coord) → WritingOf b c cs → decode b ≡ read c cs
