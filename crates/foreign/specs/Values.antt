-- The plain structs as the library's definitions have them.
use Rattle.std.specs.Prelude.{◌%◌, ◌^◌, Bool, cond, ◌&&◌, ◌||◌, Some, None, Option, is_some, ◌==◌, nat_le, nat_lt, Float}
use Rattle.std.specs.Float.Ieee.{le}
use Rattle.interval.specs.Pairs.{Pair, pair, between, stored, nothing, same}
use Rattle.interval.specs.Laws.{Set}
use Rattle.bounding.specs.Record.{Kept}
use Rattle.bounding.specs.Told.{Told}
use Rattle.book.specs.Windows.{Frame}
use Rattle.foreign.specs.declared.raw.RawPair.{RawPair}
use Rattle.foreign.specs.declared.raw.RawRecord.{RawRecord}
use Rattle.foreign.specs.declared.raw.RawBounds.{RawBounds}
use Rattle.foreign.specs.declared.raw.RawWindow.{RawWindow}

abbrev pub pair_of : RawPair → Pair
pair_of p = pair p.lo p.hi

abbrev pub raw_pair : Pair → RawPair
raw_pair p = record { lo = p.lo; hi = p.hi }

-- what a record holds
abbrev pub kept_in : RawRecord → Kept
kept_in r =
    record {
      left = pair_of r.x_left;
      mid = pair_of r.x_mid;
      right = pair_of r.x_right;
      y = pair_of r.y;
      z = pair_of r.z;
      m = pair_of r.m;
      codes = r.codes;
    }

abbrev pub raw_record : Kept → RawRecord
raw_record k =
    record {
      x_left = raw_pair k.left;
      x_mid = raw_pair k.mid;
      x_right = raw_pair k.right;
      y = raw_pair k.y;
      z = raw_pair k.z;
      m = raw_pair k.m;
      codes = k.codes;
    }

-- the empty pair where an axis has no values
abbrev pub shown : Option Pair → RawPair
shown None = raw_pair nothing
shown (Some e) = raw_pair e

abbrev pub raw_bounds : Told → RawBounds
raw_bounds t =
    record {
      x = shown t.x;
      y = shown t.y;
      z = shown t.z;
      m = shown t.m;
      has_x = is_some t.x;
      has_y = is_some t.y;
      has_z = is_some t.z;
      has_m = is_some t.m;
      codes = t.codes;
    }

-- bounds that a bounder can keep: they go up, or are the empty pair
abbrev pub usable_pair : Pair → Bool
usable_pair p = le p.lo p.hi || same p nothing

-- a record that a bounder can keep: such bounds, and the codes are among the 28
abbrev pub usable : Kept → Bool
usable k = usable_pair k.left && usable_pair k.mid && usable_pair k.right && usable_pair k.y && usable_pair k.z && usable_pair k.m && nat_lt k.codes (2 ^ 28)

-- ---- windows

-- kind 1 may wrap
abbrev pub wraps : RawWindow → Bool
wraps w = w.kind == 1

abbrev pub asks_z : RawWindow → Bool
asks_z w = w.asked % 2 == 1

abbrev pub asks_m : RawWindow → Bool
asks_m w = nat_le 2 w.asked

-- a pair that is asked for
abbrev pub asked_if : Bool → RawPair → Option (Float × Float)
asked_if asks p = cond asks (Some (p.lo, p.hi)) None

abbrev pub set_if : Bool → RawPair → Option Set
set_if asks p = cond asks (Some (between (pair_of p))) None

-- what a window covers on each axis asked for
abbrev pub frame : RawWindow → Frame
frame w = record { x = stored (pair_of w.x); y = between (pair_of w.y); z = set_if (asks_z w) w.z; m = set_if (asks_m w) w.m }
