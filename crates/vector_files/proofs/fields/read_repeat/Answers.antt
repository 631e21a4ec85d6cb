use Rattle.std.proofs.Common.{arith, ltb-false, ltb-true}
use Rattle.vector_files.proofs.Messages.{repeats, no_count}
use Rattle.vector_files.proofs.fields.read_repeat.Goals as goal

pub returns-in_err-count : goal.returns-in_err-count
returns-in_err-count c = rw c.from_residual-in_err-count.ensures (no_count c.args.field.now (omega (arith, ltb-true, ltb-false)) c.in_err-count.ensures)

pub returns : goal.returns
returns c = repeats c.args.field.now c.in_ok-byte.byte c.in_ok-count.count (omega (arith, ltb-true, ltb-false)) (omega arith) c.in_ok-byte.ensures c.in_ok-count.ensures
