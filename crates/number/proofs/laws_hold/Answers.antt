-- Each law from the lemmas on ranks.
use Rattle.std.proofs.Common.{arith}
use Rattle.number.proofs.Plain.{lowest-le, le-highest}
use Rattle.number.proofs.Order as Order
use Rattle.number.proofs.Order.{order}
use Rattle.number.proofs.Arith as Arith
use Rattle.number.proofs.laws_hold.Goals as goal

pub returns : goal.returns
returns c =
    record {
      ordered = record {
        total = λ x y (h, n) (k, m). grind order;
        transitive = λ x y z h k l p q. grind order;
        strict = λ x y h k. grind order;
        equal = λ x y h k. grind order;
        lowest = λ x h. lowest-le x;
        highest = λ x h. le-highest x;
      };
      alike = record {
        reflexive = Order.same_refl;
        symmetric = Order.same-sym;
        transitive = Order.same-trans;
        le_same = Order.le_same;
        lt_same = Order.lt_same;
        add_same = Arith.add_same;
        sub_same = Arith.sub_same;
      };
      smallest = record {
        bounds = λ x y z h k l. Order.least_le x y h k z l;
        commutes = Order.least_comm;
        associates = λ x y z h k l. Order.least_assoc x y h k z l;
        idempotent = Order.least_idem;
        ignores = Order.least_nan;
      };
      largest = record {
        bounds = λ x y z h k l. Order.le-most x y h k z l;
        commutes = Order.most_comm;
        associates = λ x y z h k l. Order.most_assoc x y h k z l;
        idempotent = Order.most_idem;
        ignores = Order.most_nan;
      };
      rounded = record {
        add_mono = Arith.add_mono;
        sub_mono = Arith.sub_mono;
        moves_up = λ x d v k. Arith.le-add x d v.0 k v.1;
        moves_down = λ x d v k. Arith.sub-le x d v.0 k v.1;
        sign = Arith.sub-below;
        nan = Arith.sub-nan;
      };
      lowest = record {
        below = λ x y h k e. let a = Arith.sub-lowest_ends x y h k in grind arith;
        infinite = λ x y h k l f. let a = Arith.sub-lowest_ends x y h k in grind arith;
        narrower = λ x y a b h k l m p q r n. (Arith.narrower y x b a k h m l p q r n).0;
      };
    }
