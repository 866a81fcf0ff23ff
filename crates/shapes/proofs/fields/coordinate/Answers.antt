use Rattle.std.proofs.lemmas.List.{take_rest}
use Rattle.shapes.proofs.Ordinates.{nan_is}
use Rattle.shapes.proofs.fields.coordinate.Goals as goal

pub returns-in-Xy : goal.returns-in-Xy
returns-in-Xy c = let b = c.args.bytes.now in rw c.in-Xy.is (cc (nan_is, take_rest b 8))

pub returns-in-Xyz : goal.returns-in-Xyz
returns-in-Xyz c = let b = c.args.bytes.now in rw c.in-Xyz.is (cc (nan_is, take_rest b 8, take_rest b 16))

pub returns-in-Xym : goal.returns-in-Xym
returns-in-Xym c = let b = c.args.bytes.now in rw c.in-Xym.is (cc (nan_is, take_rest b 8, take_rest b 16))

pub returns-in-Xyzm : goal.returns-in-Xyzm
returns-in-Xyzm c = let b = c.args.bytes.now in rw c.in-Xyzm.is (cc (take_rest b 8, take_rest b 16, take_rest b 24))
