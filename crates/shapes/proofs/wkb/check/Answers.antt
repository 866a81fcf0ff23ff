use Rattle.std.proofs.Common.{◌≡◌, arith}
use Rattle.std.proofs.lemmas.Grind.{common_steps}
use Rattle.std.proofs.lemmas.Result.{err_from_is_err_and}
use Rattle.shapes.specs.Wkb.{code_at, coords_in, decode, refused, read}
use Rattle.shapes.proofs.ReadWritten.{read-exactly, refused-no_writing}
use Rattle.shapes.proofs.wkb.check.Goals as goal

pub returns-in_err-rest-clause-written : goal.returns-in_err-rest-clause-written
returns-in_err-rest-clause-written c =
    let b = c.args.bytes.now in
    let p = err_from_is_err_and c.from_residual.result c.from_residual.ensures.1 in
    let r : decode b ≡ refused c.in_err-rest.field-0.0 = grind (arith, common_steps) in
    rw p.1 (refused-no_writing b _ (read-exactly b c.type_inv.bytes) r)

pub returns-then-not-is_empty-clause-written : goal.returns-then-not-is_empty-clause-written
returns-then-not-is_empty-clause-written c =
    let b = c.args.bytes.now in
    let r : decode b ≡ refused c.fault.result = grind (arith, common_steps) in
    refused-no_writing b _ (read-exactly b c.type_inv.bytes) r

pub returns-clause-written : goal.returns-clause-written
returns-clause-written c =
    let b = c.args.bytes.now in
    let r : decode b ≡ read (code_at b) (coords_in b) = grind (arith, common_steps) in
    (read-exactly b c.type_inv.bytes).read_was_written _ _ r
