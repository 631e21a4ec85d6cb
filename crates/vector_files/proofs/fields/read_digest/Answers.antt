use Rattle.std.proofs.Common.{refl, arith}
use Rattle.vector_files.proofs.Messages.{other_width}
use Rattle.vector_files.proofs.fields.read_digest.Goals as goal

pub returns-then-count-digest_len : goal.returns-then-count-digest_len
returns-then-count-digest_len c =
    (refl, other_width c.args.hash c.args.field.now _ _ _ (rw c.in_ok-count.ensures.ok_part at c.decode_hex.ensures) (omega arith))
