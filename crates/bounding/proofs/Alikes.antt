-- What is told of records that are equal as numbers.
use Rattle.std.proofs.Common.{◌≡◌, Bool, true, false, cond, not, ◌&&◌, ◌||◌, T, List, Some, None, subst, arith}
use mathlib.Core.Bool.{beq}
use lib.Ieee.{Float, inf, binary64, sub, eq}
use lib.Ieee.Fits.{inf-fits}
use Rattle.number.specs.Values.{Held, Same}
use Rattle.number.proofs.Order.{order, same_refl, le_same, lt_same}
use Rattle.number.proofs.Arith.{add-held, sub_held, add_same, sub_same}
use Rattle.interval.specs.Pairs.{Pair, pair, empty, width}
use Rattle.interval.specs.Ordinary.{merged}
use Rattle.shapes.specs.Source.{Shape}
use Rattle.bounding.specs.Record.{Kept, record_of}
use Rattle.bounding.specs.Told.{all, outer, ordinary, told_x, shown, told}
use Rattle.bounding.specs.Laws.{HeldEnds, HeldKept, HeldShapes, SameMembers, Alike, AlikeKept, AlikeShown, AlikeTold, TellsMembers}
use Rattle.bounding.proofs.Merging.{Plain, Into, merged-plain_right, into_left, into_right, into_merged, into_trans, into_of, alike_of}
use Rattle.bounding.proofs.Gathers.{PlainKept, record-plain, keeps-members}
use Rattle.interval.proofs.Between.{merged-ends}
use Rattle.bounding.proofs.Ordinates.{keeps-held}

-- ---- pairs that are alike
merged-into : (a b c d : Pair) → Plain c → Plain d → Into a c → Into b d → Into (merged a b) (merged c d)
merged-into a b c d p q h k = into_merged a b (merged c d) (into_trans a c (merged c d) h (into_left c d p)) (into_trans b d (merged c d) k (into_right c d q))

merged-alike : (a b c d : Pair) → Plain a → Plain b → Plain c → Plain d → Alike a c → Alike b d → Alike (merged a b) (merged c d)
merged-alike a b c d A B C D h k =
    let (p, p') = into_of a c h in
    let (q, q') = into_of b d k in
    alike_of (merged a b) (merged c d) (merged-into a b c d C D p q) (merged-into c d a b A B p' q')

alike_same : (x y : Float) → T (eq x y) → Same x y
alike_same x y h = grind arith

low_same : (a b : Pair) → Alike a b → Same a.lo b.lo
low_same a b h = alike_same a.lo b.lo h.low

high_same : (a b : Pair) → Alike a b → Same a.hi b.hi
high_same a b h = alike_same a.hi b.hi h.high

width_same : (a b : Pair) → HeldEnds a → HeldEnds b → Alike a b → Same (width a) (width b)
unfolding width
width_same a b A B h = sub_same a.hi a.lo b.hi b.lo A.1 A.0 B.1 B.0 (high_same a b h) (low_same a b h)

width-held : (a : Pair) → Held (width a)
unfolding width
width-held a = sub_held a.hi a.lo

lowest-same : (x y : Float) → Held x → Held y → Same x y → eq x (inf true) ≡ eq y (inf true)
lowest-same x y h k s = grind (order, inf-fits)

empty-same : (a b : Pair) → HeldEnds a → HeldEnds b → Alike a b → empty a ≡ empty b
unfolding empty
empty-same a b A B h = lowest-same (width a) (width b) (width-held a) (width-held b) (width_same a b A B h)

-- ---- records that are alike
all_held : (k : Kept) → HeldKept k → HeldEnds (all k)
all_held k K = merged-ends (merged k.left k.mid) k.right (merged-ends k.left k.mid K.left K.mid) K.right

module _ (h : Pair) (j k : Kept) (H : HeldEnds h) (J : HeldKept j) (K : HeldKept k) (P : PlainKept j) (Q : PlainKept k) (s : AlikeKept j k) where
  all_alike : Alike (all j) (all k)
  all_alike =
      merged-alike (merged j.left j.mid) j.right (merged k.left k.mid) k.right
      (merged-plain_right j.left j.mid P.mid) P.right (merged-plain_right k.left k.mid Q.mid) Q.right
      (merged-alike j.left j.mid k.left k.mid P.left P.mid Q.left Q.mid s.left s.mid) s.right

  outer_same : Same (outer h j) (outer h k)
  unfolding outer
  outer_same =
      add_same (sub binary64 j.left.hi h.lo) (sub binary64 h.hi j.right.lo) (sub binary64 k.left.hi h.lo) (sub binary64 h.hi k.right.lo)
      (sub_held j.left.hi h.lo) (sub_held h.hi j.right.lo) (sub_held k.left.hi h.lo) (sub_held h.hi k.right.lo)
      (sub_same j.left.hi h.lo k.left.hi h.lo J.left.1 H.0 K.left.1 H.0 (high_same j.left k.left s.left) (same_refl h.lo H.0))
      (sub_same h.hi j.right.lo h.hi k.right.lo H.1 J.right.0 H.1 K.right.0 (same_refl h.hi H.1) (low_same j.right k.right s.right))

  outer-held : (i : Kept) → Held (outer h i)
  unfolding outer
  outer-held i = add-held (sub binary64 i.left.hi h.lo) (sub binary64 h.hi i.right.lo)

  ordinary-same : ordinary h j ≡ ordinary h k
  unfolding ordinary
  ordinary-same =
      let A = all_held j J in
      let B = all_held k K in
      let a = all_alike in
      λ i.
      not (empty-same j.mid k.mid J.mid K.mid s.mid i)
      || not (le_same h.lo (all j).lo h.lo (all k).lo H.0 A.0 H.0 B.0 (same_refl h.lo H.0) (low_same (all j) (all k) a) i
      && le_same (all j).hi h.hi (all k).hi h.hi A.1 H.1 B.1 H.1 (high_same (all j) (all k) a) (same_refl h.hi H.1) i)
      || not (beq (empty-same j.left k.left J.left K.left s.left i) (empty-same j.right k.right J.right K.right s.right i))
      || lt_same (width (all j)) (outer h j) (width (all k)) (outer h k) (width-held (all j)) (outer-held j) (width-held (all k)) (outer-held k) (width_same (all j) (all k) A B a) outer_same i

  told_x-alike : Alike (told_x h j) (told_x h k)
  told_x-alike = subst (λ (b : Bool). Alike (told_x h j) (cond b (all k) (pair k.right.lo k.left.hi))) ordinary-same (go (ordinary h j))
    where
      go : (b : Bool) → Alike (cond b (all j) (pair j.right.lo j.left.hi)) (cond b (all k) (pair k.right.lo k.left.hi))
      go true = all_alike
      go false = record { low = s.right.low; high = s.left.high }

  shown-alike : (a b d e : Pair) → HeldEnds a → HeldEnds b → Alike a b → Alike d e → AlikeShown (shown a d) (shown b e)
  shown-alike a b d e A B p q = subst (λ (v : Bool). AlikeShown (shown a d) (cond v None (Some e))) (empty-same a b A B p) (go (empty a))
    where
      go : (v : Bool) → AlikeShown (cond v None (Some d)) (cond v None (Some e))
      go true = tt
      go false = q

  pub told-alike : AlikeTold (told h j) (told h k)
  told-alike =
      record {
        x = shown-alike (all j) (all k) (told_x h j) (told_x h k) (all_held j J) (all_held k K) all_alike told_x-alike;
        y = shown-alike j.y k.y j.y k.y J.y K.y s.y s.y;
        z = shown-alike j.z k.z j.z k.z J.z K.z s.z s.z;
        m = shown-alike j.m k.m j.m k.m J.m K.m s.m s.m;
        codes = s.codes;
      }

-- both directions of the same members
other_held : (a b : List Shape) → HeldShapes a → SameMembers a b → HeldShapes b
other_held a b h s t m = h t (s.1 t m)

pub tells-members : TellsMembers
tells-members h a b H A s =
    told-alike h (record_of h a) (record_of h b) H (keeps-held h a A) (keeps-held h b (other_held a b A s)) (record-plain h a) (record-plain h b) (keeps-members h a b s)
