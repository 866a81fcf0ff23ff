-- What a list of bytes decodes to: a fault, or the code and the coordinates of the shape that it holds.
use Rattle.std.specs.Prelude.{◌≡◌, ℕ, zero, suc, ◌-◌, ◌*◌, ◌≤◌, Bool, true, false, List, [], ◌∷◌, length, drop, Some, None, Option, Result, MatchResult, nat_le, slice_index}
use Rattle.std.specs.Borrow.{Bor}
use Rattle.interval.specs.declared.fault.Cause.{Cause}
use Rattle.interval.specs.declared.fault.Cause.TheVariants.{Truncated, ByteOrder, TypeCode, PartType, TooDeep, TrailingBytes}
use Rattle.interval.specs.declared.fault.Fault.{Fault}
use Rattle.interval.specs.Faults.{at}
use Rattle.shapes.specs.declared.endian.Endian.{Endian}
use Rattle.shapes.specs.declared.code.Kind.{Kind}
use Rattle.shapes.specs.declared.code.Kind.TheVariants.{Point, Line, Polygon, MultiPoint, MultiLine, MultiPolygon, Collection}
use Rattle.shapes.specs.declared.code.Dimension.{Dimension}
use Rattle.shapes.specs.declared.code.Dimension.TheVariants.{Xy}
use Rattle.shapes.specs.declared.code.Code.{Code}
use Rattle.shapes.specs.declared.coord.Coord.{Coord}
use Rattle.shapes.specs.declared.stop.Stop.{Stop}
use Rattle.shapes.specs.Codes.{code_of, width, fits}
use Rattle.shapes.specs.Numbers.{order_of, u32_at, coord_at}

-- ---- readers

-- where reading ends: at a fault, with so many bytes left from its place on, or with these bytes left over
pub data Ending : Type 0 where
  stop : Cause → ℕ → Ending
  ended : List ℕ → Ending

-- the coordinates met, and then the end
pub record Run : Type 0 where
  pub coords : List Coord
  pub ending : Ending

abbrev pub Reader : Type 0
Reader = List ℕ → Run

abbrev pub fault : Cause → Reader
fault c b = record { coords = []; ending = stop c (length b) }

abbrev pub finish : Reader
finish b = record { coords = []; ending = ended b }

abbrev pub give : Coord → Run → Run
give c r = record { coords = c ∷ r.coords; ending = r.ending }

-- tests are matched on, so that only the way taken is computed
abbrev pub if : Bool → Reader → Reader → Reader
if true p q b = p b
if false p q b = q b

-- a field of n bytes has to be there whole
abbrev pub whole : ℕ → Reader → Reader
whole n k b = if (nat_le n (length b)) k (fault Truncated) b

-- n fields of eight bytes
unfoldable pub eights : ℕ → Reader → Reader
eights zero k b = k b
eights (suc n) k b = whole 8 (λ c. eights n k (drop 8 c)) b

-- Each reader below takes the reader of what follows.

-- one coordinate
unfoldable pub coord : Endian → Dimension → Bool → Reader → Reader
coord o d j k b = eights (width d) (λ _. give (coord_at o d j b) (k (drop (8 * width d) b))) b

-- n coordinates, the first of which joins if j says so; the others do
unfoldable pub points : Endian → Dimension → Bool → ℕ → Reader → Reader
points o d j zero k b = k b
points o d j (suc n) k b = coord o d j (points o d true n k) b

-- n times the same
unfoldable pub times : (Reader → Reader) → ℕ → Reader → Reader
times r zero k b = k b
times r (suc n) k b = r (times r n k) b

-- a count, and so many of what r reads
unfoldable pub counted : Endian → (ℕ → Reader → Reader) → Reader → Reader
counted o r k b = whole 4 (λ c. r (u32_at o c) k (drop 4 c)) b

-- a line or a ring
abbrev pub line : Endian → Dimension → Reader → Reader
line o d = counted o (points o d false)

-- what follows the header of a shape; part reads a part of a container
unfoldable pub body : Endian → Dimension → (Reader → Reader) → Kind → Reader → Reader
body o d part Point = points o d false 1
body o d part Line = line o d
body o d part Polygon = counted o (times (line o d))
body o d part MultiPoint = counted o (times part)
body o d part MultiLine = counted o (times part)
body o d part MultiPolygon = counted o (times part)
body o d part Collection = counted o (times part)

abbrev pub with_order : Option Endian → (Endian → Reader) → Reader
with_order (Some o) f b = f o b
with_order None f b = fault ByteOrder b

abbrev pub with_code : Option Code → (Code → Reader) → Reader
with_code (Some c) f b = f c b
with_code None f b = fault TypeCode b

-- order byte and code of a shape that stands in this container, and what f reads after them
unfoldable pub header : Option Code → (Endian → Code → Reader) → Reader
header outer f b =
    whole 1 (λ _. with_order (order_of (slice_index b 0)) (λ o _.
    whole 4 (λ _. with_code (code_of (u32_at o (drop 1 b))) (λ c.
    if (fits outer c) (λ _. f o c (drop 5 b)) (fault PartType)) (drop 1 b)) (drop 1 b)) b) b

-- a whole shape that stands in this container, with so many levels left
unfoldable pub shape : ℕ → Option Code → Reader → Reader
shape zero outer k b = fault TooDeep b
shape (suc l) outer k b = header outer (λ o c. body o c.dim (shape l (Some c)) c.kind k) b

-- ---- decoding

pub data Decoded : Type 0 where
  refused : Fault → Decoded
  read : Code → List Coord → Decoded

-- a place counts from the first of the t bytes
abbrev pub placed : ℕ → Cause → ℕ → Fault
placed t c left = at c (t - left)

abbrev pub decoded : ℕ → Ending → Code → List Coord → Decoded
decoded t (stop c n) code cs = refused (placed t c n)
decoded t (ended []) code cs = read code cs
decoded t (ended (b ∷ bs)) code cs = refused (placed t TrailingBytes (length (b ∷ bs)))

-- the code in the header; where there is none, reading stops at a fault
abbrev pub code_or : Option Code → Code
code_or (Some c) = c
code_or None = record { kind = Point; dim = Xy }

abbrev pub code_in : Option Endian → List ℕ → Code
code_in (Some o) b = code_or (code_of (u32_at o (drop 1 b)))
code_in None b = code_or None

abbrev pub code_at : List ℕ → Code
code_at b = code_in (order_of (slice_index b 0)) b

-- the deepest level, the outermost shape standing on level 1
abbrev pub levels : ℕ
levels = 32

abbrev pub run_of : List ℕ → Run
run_of b = shape levels None finish b

abbrev pub coords_in : List ℕ → List Coord
coords_in b = (run_of b).coords

abbrev pub decode : List ℕ → Decoded
decode b = decoded (length b) (run_of b).ending (code_at b) (coords_in b)

-- ---- what a check of the bytes b says of a reader: it goes on with rest, or it stops

-- a stop with the bytes b left
abbrev pub before : Cause → List ℕ → Stop
before c b = record { cause = c; left = length b }

abbrev pub Passes : (Reader → Reader) → List ℕ → List ℕ → Type 0
Passes r b rest = (k : Reader) → (r k b).ending ≡ (k rest).ending

pub record Fails (r : Reader → Reader) (b : List ℕ) (s : Stop) : Type 0 where
  pub within : s.left ≤ length b
  pub stops : (k : Reader) → (r k b).ending ≡ stop s.cause s.left

-- the answer of a check: what follows what the reader reads, or where it stops
abbrev pub Follows : (Reader → Reader) → List ℕ → Result (Bor (List ℕ)) Stop → Type 0
Follows r b x = MatchResult x (λ rest. (length rest.now ≤ length b) × Passes r b rest.now) (λ s. Fails r b s)

-- of n coordinates, in whichever byte order and whether or not the first joins
abbrev pub PointsFollow : Dimension → ℕ → List ℕ → Result (Bor (List ℕ)) Stop → Type 0
PointsFollow d n b x = (o : Endian) (j : Bool) → Follows (points o d j n) b x

-- a header that is there, with what follows it, and one that is not
abbrev pub Headed : Option Code → List ℕ → Endian → Code → List ℕ → Type 0
Headed outer b o c rest = (f : Endian → Code → Reader) → header outer f b ≡ f o c rest

pub record Unheaded (outer : Option Code) (b : List ℕ) (s : Stop) : Type 0 where
  pub within : s.left ≤ length b
  pub stops : (g : Endian → Code → Reader) → header outer g b ≡ record { coords = []; ending = stop s.cause s.left }
