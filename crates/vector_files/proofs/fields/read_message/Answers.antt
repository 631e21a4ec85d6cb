use Rattle.std.proofs.lemmas.Grind.{common_steps}
use Rattle.std.proofs.lemmas.Bool.Decides.{not_from_Decides}
use Rattle.std.proofs.Common.{codes, ◌≡◌, arith}
use Rattle.std.proofs.lemmas.Result.{err_from_is_err_and}
use Rattle.std.proofs.lemmas.Slice.Eq.{text_from_reads}
use Rattle.vector_files.proofs.Messages.{bad_hex, bad_repeat, bad_form}
use Rattle.vector_files.specs.declared.vector.Fault.TheVariants.{Message}
use Rattle.vector_files.proofs.fields.read_message.Goals as goal

pub returns-in_err-byte-in-repeat : goal.returns-in_err-byte-in-repeat
returns-in_err-byte-in-repeat c =
    let p = err_from_is_err_and c.from_residual.result c.from_residual.ensures.1 in
    let none = c.in_err-byte-in-repeat.ensures.ok_part in
    let fault = rw none at c.in_err-byte-in-repeat.ensures.value in
    let same : c.in_err-byte-in-repeat.field-0.0 ≡ Message = cc in
    let word : c.args.form.now ≡ codes "repeat" = text_from_reads c.args.form.now (codes "repeat") (omega arith) (omega arith, (omega arith, (omega arith, (omega arith, (omega arith, (omega arith, tt)))))) in
    rw (p.1, p.2, same) (bad_repeat c.args.form.now c.args.field.now word (rw none at c.read_repeat.ensures))

pub returns-in-hex-2 : goal.returns-in-hex-2
returns-in-hex-2 c =
    bad_hex c.args.form.now c.args.field.now c.args.field (text_from_reads c.args.form.now (codes "hex") (omega arith) (omega arith, (omega arith, (omega arith, tt)))) (not_from_Decides _ c.is_hex.ensures c.if-is_hex.false)

pub returns-in_ok-byte-in-repeat : goal.returns-in_ok-byte-in-repeat
returns-in_ok-byte-in-repeat c =
    let r = rw c.in_ok-byte-in-repeat.ensures.ok_part at c.read_repeat.ensures in
    let word : c.args.form.now ≡ codes "repeat" = text_from_reads c.args.form.now (codes "repeat") (omega arith) (omega arith, (omega arith, (omega arith, (omega arith, (omega arith, (omega arith, tt)))))) in
    ((r.is_byte, r.few), word, r.written)

pub returns-in_default : goal.returns-in_default
returns-in_default c =
    bad_form c.args.form.now c.args.field.now (λ l b0 b1 b2 b3. grind (arith, common_steps)) (λ l b0 b1 b2. grind (arith, common_steps)) (λ l b0 b1 b2 b3 b4 b5. grind (arith, common_steps))
