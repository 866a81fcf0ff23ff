-- What a bounder keeps of a list of shapes.
use Rattle.std.specs.Prelude.{ℕ, ◌+◌, ◌-◌, ◌*◌, ◌^◌, Bool, true, false, cond, not, ◌&&◌, List, [], ◌∷◌, bit_or, Float}
use Rattle.std.specs.Float.{inf}
use Rattle.std.specs.Float.Ieee.{lt}
use Rattle.interval.specs.Pairs.{Pair}
use Rattle.interval.specs.Ordinary.{merged, middle, too_wide}
use Rattle.shapes.specs.declared.code.Code.{Code}
use Rattle.shapes.specs.Codes.{kind_number, dim_number}
use Rattle.shapes.specs.Source.{Shape}
use Rattle.bounding.specs.Runs.{Run, runs_of, gather, xs, ys, zs, ms}

pub record Kept : Type 0 where
  pub left : Pair
  pub mid : Pair
  pub right : Pair
  pub y : Pair
  pub z : Pair
  pub m : Pair
  pub codes : ℕ

-- where the hint is divided: at its middle, or at +∞ where its width is too large for an f64
unfoldable pub divide : Pair → Float
divide h = cond (too_wide h) (inf false) (middle h)

-- a hull wholly below the point of division, wholly above it, or neither
abbrev pub below : Float → Pair → Bool
below t e = lt e.hi t

abbrev pub above : Float → Pair → Bool
above t e = not (below t e) && lt t e.lo

abbrev pub across : Float → Pair → Bool
across t e = not (below t e) && not (lt t e.lo)

abbrev pub every : Pair → Bool
every e = true

-- the place of a code's bit: places rise with the codes
abbrev pub place : Code → ℕ
place c = dim_number c.dim * 7 + kind_number c.kind - 1

-- the set of the shapes' outermost codes
unfoldable pub codes_of : List Shape → ℕ
codes_of [] = 0
codes_of (s ∷ ss) = bit_or (2 ^ place s.code) (codes_of ss)

abbrev pub kept_of : Float → List Run → ℕ → Kept
kept_of t rs n =
    record {
      left = gather xs (below t) rs;
      mid = gather xs (across t) rs;
      right = gather xs (above t) rs;
      y = gather ys every rs;
      z = gather zs every rs;
      m = gather ms every rs;
      codes = n;
    }

-- what a new bounder with the hint h keeps after these shapes
abbrev pub record_of : Pair → List Shape → Kept
record_of h ss = kept_of (divide h) (runs_of ss) (codes_of ss)

-- bound by bound, and the codes joined
abbrev pub merge : Kept → Kept → Kept
merge a b =
    record {
      left = merged a.left b.left;
      mid = merged a.mid b.mid;
      right = merged a.right b.right;
      y = merged a.y b.y;
      z = merged a.z b.z;
      m = merged a.m b.m;
      codes = bit_or a.codes b.codes;
    }
