-- The laws of records and of what is told, over shapes and their runs.
use Rattle.std.specs.Prelude.{◌≡◌, true, not, T, ◌⊎◌, List, [], ◌∷◌, ◌++◌, map, Some, None, Option, is_nan, Float}
use mathlib.Core.List.{Memᴰ}
use Rattle.std.specs.Float.Ieee.{eq}
use Rattle.number.specs.Values.{Held}
use Rattle.interval.specs.Pairs.{Pair, between, stored, nothing}
use Rattle.interval.specs.Laws.{refusal}
use Rattle.shapes.specs.declared.coord.Coord.{Coord}
use Rattle.shapes.specs.Source.{Shape, InBinary64}
use Rattle.bounding.specs.Runs.{Axis, Run, hull, runs, runs_of, xs, ys, zs, ms}
use Rattle.bounding.specs.Record.{Kept, record_of, merge}
use Rattle.bounding.specs.Told.{Told, told}

-- ---- merging

-- the records of two lists, merged, are the record of both lists together
abbrev pub MergesLists : Type 0
MergesLists = (h : Pair) (a b : List Shape) → record_of h (a ++ b) ≡ merge (record_of h a) (record_of h b)

-- records merged in order, from the first on
unfoldable pub merged_from : Kept → List Kept → Kept
merged_from k [] = k
merged_from k (l ∷ ls) = merged_from (merge k l) ls

unfoldable pub together : List (List Shape) → List Shape
together [] = []
together (p ∷ ps) = p ++ together ps

-- the records of pages, merged, are the record of all their shapes
abbrev pub MergesPages : Type 0
MergesPages = (h : Pair) (ps : List (List Shape)) → merged_from (record_of h []) (map (record_of h) ps) ≡ record_of h (together ps)

-- ---- order and copies

-- the same shapes, each once or more, in any order
abbrev pub SameMembers : List Shape → List Shape → Type 0
SameMembers a b = ((s : Shape) → Memᴰ s a → Memᴰ s b) × ((s : Shape) → Memᴰ s b → Memᴰ s a)

-- equal as numbers, end by end
pub record Alike (a b : Pair) : Type 0 where
  pub low : T (eq a.lo b.lo)
  pub high : T (eq a.hi b.hi)

pub record AlikeKept (a b : Kept) : Type 0 where
  pub left : Alike a.left b.left
  pub mid : Alike a.mid b.mid
  pub right : Alike a.right b.right
  pub y : Alike a.y b.y
  pub z : Alike a.z b.z
  pub m : Alike a.m b.m
  pub codes : a.codes ≡ b.codes

abbrev pub AlikeShown : Option Pair → Option Pair → Type 0
AlikeShown None None = Unit {0}
AlikeShown None (Some b) = ⊥
AlikeShown (Some a) None = ⊥
AlikeShown (Some a) (Some b) = Alike a b

pub record AlikeTold (a b : Told) : Type 0 where
  pub x : AlikeShown a.x b.x
  pub y : AlikeShown a.y b.y
  pub z : AlikeShown a.z b.z
  pub m : AlikeShown a.m b.m
  pub codes : a.codes ≡ b.codes

-- an f64 holds the ends of a pair, and those of every bound of a record
abbrev pub HeldEnds : Pair → Type 0
HeldEnds e = Held e.lo × Held e.hi

pub record HeldKept (k : Kept) : Type 0 where
  pub left : HeldEnds k.left
  pub mid : HeldEnds k.mid
  pub right : HeldEnds k.right
  pub y : HeldEnds k.y
  pub z : HeldEnds k.z
  pub m : HeldEnds k.m

-- an f64 holds every ordinate of these shapes
abbrev pub HeldCoords : List Coord → Type 0
HeldCoords cs = (c : Coord) → Memᴰ c cs → InBinary64 c

abbrev pub HeldShapes : List Shape → Type 0
HeldShapes ss = (s : Shape) → Memᴰ s ss → HeldCoords s.coords

-- the bounds that are kept do not depend on order or copies, nor does what is told
abbrev pub KeepsMembers : Type 0
KeepsMembers = (h : Pair) (a b : List Shape) → SameMembers a b → AlikeKept (record_of h a) (record_of h b)

abbrev pub TellsMembers : Type 0
TellsMembers = (h : Pair) (a b : List Shape) → HeldEnds h → HeldShapes a → SameMembers a b → AlikeTold (told h (record_of h a)) (told h (record_of h b))

-- ---- what is covered

-- the run has a value on the axis
abbrev pub HasValue : Axis → Run → Type 0
HasValue f r = (c : Coord) × Memᴰ c r × T (not (is_nan (f c)))

-- an axis is left out when no run has a value there, and else what is told covers the hull of every run
abbrev pub Covers : Axis → List Run → Option Pair → Type 0
Covers f rs None = (r : Run) → Memᴰ r rs → HasValue f r → ⊥
Covers f rs (Some e) = ((r : Run) × Memᴰ r rs × HasValue f r) × ((r : Run) → Memᴰ r rs → (v : Float) → T (between (hull f r) v) → T (stored e v))

pub record CoversAll (rs : List Run) (t : Told) : Type 0 where
  pub x : Covers xs rs t.x
  pub y : Covers ys rs t.y
  pub z : Covers zs rs t.z
  pub m : Covers ms rs t.m

-- a kind that can wrap takes the pair
abbrev pub Takable : Option Pair → Type 0
Takable None = Unit {0}
Takable (Some e) = refusal true e ≡ None

-- Of an answer t on the record k, for any shapes that k is the record of: it covers their runs, a kind that can wrap takes x, and it is
-- what is told of any other list of the same shapes.
pub record TellsOf (h : Pair) (t : Told) (ss : List Shape) : Type 0 where
  pub covers : CoversAll (runs_of ss) t
  pub takable : Takable t.x
  pub members : (others : List Shape) → HeldShapes others → SameMembers ss others → AlikeTold t (told h (record_of h others))

abbrev pub Tells : Pair → Kept → Told → Type 0
Tells h k t = (ss : List Shape) → k ≡ record_of h ss → TellsOf h t ss

-- of a record r merged of k and l: the records of two lists give the record of both lists together
abbrev pub Together : Kept → Kept → Kept → Type 0
Together k l r = (h : Pair) (a b : List Shape) → k ≡ record_of h a → l ≡ record_of h b → r ≡ record_of h (a ++ b)

-- ---- what hulls and runs are

-- v is the value of a coordinate of the run
abbrev pub Attained : Axis → Run → Float → Type 0
Attained f r v = (c : Coord) × Memᴰ c r × (f c ≡ v)

-- The hull of a run with values goes from one of its values to another and holds them all. That of any other is empty.
pub record Hulled (f : Axis) (r : Run) (e : Pair) : Type 0 where
  pub lowest : Attained f r e.lo
  pub highest : Attained f r e.hi
  pub holds : (c : Coord) → Memᴰ c r → T (not (is_nan (f c))) → T (between e (f c))

abbrev pub HullsExact : Type 0
HullsExact = (f : Axis) (r : Run) → ((HasValue f r → ⊥) × (hull f r ≡ nothing)) ⊎ Hulled f r (hull f r)

abbrev pub Joined : Run → Type 0
Joined r = (c : Coord) → Memᴰ c r → T c.joins

abbrev pub First : Run → Type 0
First [] = ⊥
First (c ∷ r) = Joined r

abbrev pub Begun : Run → Type 0
Begun [] = ⊥
Begun (c ∷ r) = T (not c.joins) × Joined r

abbrev pub Pieces : List Run → Type 0
Pieces [] = Unit {0}
Pieces (r ∷ rs) = First r × ((q : Run) → Memᴰ q rs → Begun q)

unfoldable pub concat : List Run → List Coord
concat [] = []
concat (r ∷ rs) = r ++ concat rs

-- the runs of a list are its pieces in their order, cut just before each coordinate that does not join
abbrev pub RunsExact : Type 0
RunsExact = (cs : List Coord) → (concat (runs cs) ≡ cs) × Pieces (runs cs)
