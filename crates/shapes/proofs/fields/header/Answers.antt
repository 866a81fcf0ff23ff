use Rattle.std.proofs.Common.{◌≡◌, true, false, get_or, drop, Some, None, sym, refl, ap, ◌∙◌, arith, length-drop, drop-drop}
use Rattle.std.proofs.lemmas.Grind.{common_steps}
use Rattle.std.proofs.lemmas.List.{take_rest}
use Rattle.interval.specs.declared.fault.Cause.TheVariants.{ByteOrder, TypeCode, PartType}
use Rattle.shapes.specs.Codes.{code_of, fits}
use Rattle.shapes.specs.Numbers.{order_of}
use Rattle.shapes.specs.Wkb.{before}
use Rattle.shapes.proofs.Reading.{u32_list_1, err-stop, header-order, header-code, header-misfit, header-there}
use Rattle.shapes.proofs.fields.header.Goals as goal

pub returns-in_err-order : goal.returns-in_err-order
returns-in_err-order c =
    let b = c.args.bytes.now in
    let e : order_of (get_or b 0 0) ≡ None = grind (arith, common_steps) in
    let p : c.in_err-order.field-0.0 ≡ before ByteOrder b = grind (arith, common_steps) in
    err-stop _ _ _ _ c.from_residual.ensures.1 (header-order c.args.outer b _ (omega (arith, c.in-len5-up.len_at_least)) e p)

pub returns-in_default-try_from : goal.returns-in_default-try_from
returns-in_default-try_from c =
    let b = c.args.bytes.now in
    let o = c.in_ok-order.order in
    let h5 = c.in-len5-up.len_at_least in
    let e : order_of (get_or b 0 0) ≡ Some o = grind arith in
    let n = c.read_u32.ensures ∙ u32_list_1 o b in
    header-code c.args.outer b (drop 1 b) _ (omega (arith, h5)) e refl _ (omega (arith, h5, length-drop 1 b)) n _ c.in_default-try_from.ensures.0 (c.before-in_default-try_from.ensures ∙ ap (before TypeCode) (take_rest b 1))

pub returns-then-not-fits_in : goal.returns-then-not-fits_in
returns-then-not-fits_in c =
    let b = c.args.bytes.now in
    let o = c.in_ok-order.order in
    let h5 = c.in-len5-up.len_at_least in
    let e : order_of (get_or b 0 0) ≡ Some o = grind arith in
    let n = c.read_u32.ensures ∙ u32_list_1 o b in
    let d : code_of c.read_u32.result ≡ Some c.in-Ok.code = grind arith in
    let g : fits c.args.outer c.in-Ok.code ≡ false = sym c.fits_in.ensures ∙ c.if-not-fits_in.true in
    header-misfit c.args.outer b (drop 1 b) _ (omega (arith, h5)) e refl _ (omega (arith, h5, length-drop 1 b)) n _ _ d g (c.before-then-not-fits_in.ensures ∙ ap (before PartType) (take_rest b 1))

pub returns : goal.returns
returns c =
    let b = c.args.bytes.now in
    let o = c.in_ok-order.order in
    let h5 = c.in-len5-up.len_at_least in
    let e : order_of (get_or b 0 0) ≡ Some o = grind arith in
    let n = c.read_u32.ensures ∙ u32_list_1 o b in
    let d : code_of c.read_u32.result ≡ Some c.in-Ok.code = grind arith in
    let g : fits c.args.outer c.in-Ok.code ≡ true = sym c.fits_in.ensures ∙ c.if-not-fits_in.false in
    header-there c.args.outer b (drop 1 b) _ (omega (arith, h5)) e refl _ (omega (arith, h5, length-drop 1 b)) n _ _ d g (take_rest b 5 ∙ sym (drop-drop 4 1 b))

pub returns-in_default : goal.returns-in_default
returns-in_default c = c.cut_header.ensures c.args.outer
