use Rattle.std.proofs.Common.{◌≡◌}
use Rattle.std.proofs.lemmas.Result.{err_from_is_err_and}
use Rattle.vector_files.specs.declared.vector.Fault.TheVariants.{FieldCount}
use Rattle.vector_files.specs.Vectors.{name, hash, message, digest, field_count, fields}
use Rattle.vector_files.proofs.Readings.{refused_none, one_vector, no_answer, no_fault, a_vector}
use Rattle.vector_files.proofs.read.read_vector.Goals as goal

pub returns-in_err-fields : goal.returns-in_err-fields
returns-in_err-fields c =
    let p = err_from_is_err_and c.from_residual.result c.from_residual.ensures.1 in
    let none = c.in_err-fields.ensures.ok_part in
    let fault = rw none at c.in_err-fields.ensures.value in
    let same : c.in_err-fields.field-0.0 ≡ FieldCount = cc in
    let r = field_count (rw none at c.five_fields.ensures) in
    rw (p.1, p.2, same) (record { reads = r; accepts = refused_none c.args.line.now _ r; refuses = no_answer c.args.line.now _ r })

pub returns-in_err-name : goal.returns-in_err-name
returns-in_err-name c =
    let p = err_from_is_err_and c.from_residual-in_err-name.result c.from_residual-in_err-name.ensures.1 in
    let five = rw c.in_ok-fields.ensures.ok_part at c.five_fields.ensures in
    let e = c.in_err-name.ensures in
    let r = fields five (name e.1) in
    rw (p.1, p.2, e.0) (record { reads = r; accepts = refused_none c.args.line.now _ r; refuses = no_answer c.args.line.now _ r })

pub returns-in_err-hash : goal.returns-in_err-hash
returns-in_err-hash c =
    let p = err_from_is_err_and c.from_residual-in_err-hash.result c.from_residual-in_err-hash.ensures.1 in
    let five = rw c.in_ok-fields.ensures.ok_part at c.five_fields.ensures in
    let e = c.in_err-hash.ensures in
    let r = fields five (hash c.in_ok-name.ensures.0 e.1) in
    rw (p.1, p.2, e.0) (record { reads = r; accepts = refused_none c.args.line.now _ r; refuses = no_answer c.args.line.now _ r })

pub returns-in_err-message : goal.returns-in_err-message
returns-in_err-message c =
    let p = err_from_is_err_and c.from_residual-in_err-message.result c.from_residual-in_err-message.ensures.1 in
    let five = rw c.in_ok-fields.ensures.ok_part at c.five_fields.ensures in
    let r = fields five (message c.in_ok-name.ensures.0 c.in_ok-hash.hash c.in_ok-hash.ensures c.in_err-message.ensures) in
    rw (p.1, p.2) (record { reads = r; accepts = refused_none c.args.line.now _ r; refuses = no_answer c.args.line.now _ r })

pub returns-in_err-read_digest : goal.returns-in_err-read_digest
returns-in_err-read_digest c =
    let p = err_from_is_err_and c.from_residual-in_err-read_digest.result c.from_residual-in_err-read_digest.ensures.1 in
    let five = rw c.in_ok-fields.ensures.ok_part at c.five_fields.ensures in
    let e = c.in_err-read_digest.ensures in
    let m = c.in_ok-message.ensures in
    let r = fields five (digest c.in_ok-name.ensures.0 c.in_ok-hash.hash c.in_ok-hash.ensures c.in_ok-message.message m.0 m.1 m.2 e.1) in
    rw (p.1, p.2, e.0) (record { reads = r; accepts = refused_none c.args.line.now _ r; refuses = no_answer c.args.line.now _ r })

pub returns : goal.returns
returns c =
    let n = c.in_ok-name.ensures in
    let m = c.in_ok-message.ensures in
    let five = rw c.in_ok-fields.ensures.ok_part at c.five_fields.ensures in
    let v = a_vector c.args.line.now _ _ _ _ _ _ five n.0 n.1 c.in_ok-hash.ensures m.0 m.1 m.2 c.in_ok-read_digest.ensures in
    record {
      reads = v;
      accepts = λ w g e. one_vector c.args.line.now w _ g e v.0 v.1;
      refuses = no_fault c.args.line.now _ v.0 v.1;
    }
