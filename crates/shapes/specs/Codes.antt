-- The type codes: seven kinds of shape in four dimensions.
use Rattle.std.specs.Prelude.{◌≡◌, ℕ, ◌+◌, ◌*◌, ◌/◌, ◌%◌, Bool, true, cond, ◌&&◌, ◌||◌, Some, None, Option, Result, MatchResult, ◌==◌}
use Rattle.shapes.specs.declared.code.Kind.{Kind}
use Rattle.shapes.specs.declared.code.Kind.TheVariants.{Point, Line, Polygon, MultiPoint, MultiLine, MultiPolygon, Collection}
use Rattle.shapes.specs.declared.code.Dimension.{Dimension}
use Rattle.shapes.specs.declared.code.Dimension.TheVariants.{Xy, Xyz, Xym, Xyzm}
use Rattle.shapes.specs.declared.code.Code.{Code}
use Rattle.shapes.specs.declared.code.UnknownCode.{UnknownCode}

abbrev pub kind_number : Kind → ℕ
kind_number Point = 1
kind_number Line = 2
kind_number Polygon = 3
kind_number MultiPoint = 4
kind_number MultiLine = 5
kind_number MultiPolygon = 6
kind_number Collection = 7

-- so many thousands
abbrev pub dim_number : Dimension → ℕ
dim_number Xy = 0
dim_number Xyz = 1
dim_number Xym = 2
dim_number Xyzm = 3

-- a code is a kind plus a dimension: 0, 1000, 2000 or 3000
abbrev pub code_number : Code → ℕ
code_number c = kind_number c.kind + 1000 * dim_number c.dim

-- ordinates of one coordinate
abbrev pub width : Dimension → ℕ
width Xy = 2
width Xyz = 3
width Xym = 3
width Xyzm = 4

-- ---- the code that a number is, if it is one of the 28

abbrev pub kind_of : ℕ → Option Kind
kind_of n =
    cond (n == 1) (Some Point) (cond (n == 2) (Some Line) (cond (n == 3) (Some Polygon) (cond (n == 4) (Some MultiPoint)
    (cond (n == 5) (Some MultiLine) (cond (n == 6) (Some MultiPolygon) (cond (n == 7) (Some Collection) None))))))

abbrev pub dim_of : ℕ → Option Dimension
dim_of n = cond (n == 0) (Some Xy) (cond (n == 1) (Some Xyz) (cond (n == 2) (Some Xym) (cond (n == 3) (Some Xyzm) None)))

abbrev pub code_with : Kind → Option Dimension → Option Code
code_with k (Some d) = Some (record { kind = k; dim = d })
code_with k None = None

abbrev pub code_from : Option Kind → Option Dimension → Option Code
code_from (Some k) d = code_with k d
code_from None d = None

abbrev pub code_of : ℕ → Option Code
code_of n = code_from (kind_of (n % 1000)) (dim_of (n / 1000))

-- the answer r is what the number n stands for, if there is such a thing, or else an error with n
abbrev pub Reads : {A : Type 0} → Option A → ℕ → Result A UnknownCode → Type 0
Reads o n r = MatchResult r (λ a. o ≡ Some a) (λ e. (o ≡ None) × (e.0 ≡ n))

-- ---- parts

-- a collection takes every kind, the multiple of a kind takes that kind
abbrev pub takes : Kind → Kind → Bool
takes o k = kind_number o == 7 || kind_number o == kind_number k + 3

-- whether a shape of code c may stand in this container, of whose dimension it has to be; the outermost shape has none
abbrev pub fits : Option Code → Code → Bool
fits None c = true
fits (Some o) c = takes o.kind c.kind && dim_number o.dim == dim_number c.dim
