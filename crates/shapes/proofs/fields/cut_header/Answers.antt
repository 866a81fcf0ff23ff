use Rattle.std.proofs.Common.{◌≡◌, get_or, Some, None, arith, rules}
use Rattle.std.proofs.lemmas.Grind.{common_steps}
use Rattle.std.proofs.lemmas.List.{take_rest}
use Rattle.interval.specs.declared.fault.Cause.TheVariants.{ByteOrder}
use Rattle.shapes.specs.Numbers.{order_of}
use Rattle.shapes.specs.Wkb.{before}
use Rattle.shapes.proofs.Reading.{header-empty, header-order, header-cut}
use Rattle.shapes.proofs.fields.cut_header.Goals as goal

pub returns-in-empty : goal.returns-in-empty
returns-in-empty c = λ outer. header-empty outer c.args.bytes.now _ c.in-empty.len_below c.before-in-empty.ensures

pub returns-in-Ok : goal.returns-in-Ok
returns-in-Ok c =
    let b = c.args.bytes.now in
    let e : order_of (get_or b 0 0) ≡ Some c.in-Ok.field-0 = grind (arith, common_steps) in
    λ outer. header-cut outer b _ _ c.in-len1-up.len_at_least e (take_rest b 1) _ (search rules) c.before-in-Ok.ensures

pub returns-in-Err : goal.returns-in-Err
returns-in-Err c =
    let b = c.args.bytes.now in
    let e : order_of (get_or b 0 0) ≡ None = grind (arith, common_steps) in
    let p : c.before-in-Err.result ≡ before ByteOrder b = grind (arith, common_steps) in
    λ outer. header-order outer b _ c.in-len1-up.len_at_least e p
