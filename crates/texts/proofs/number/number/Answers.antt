use Rattle.std.proofs.Common.{arith}
use Rattle.std.proofs.lemmas.Grind.{common_steps}
use Rattle.texts.proofs.Numerals.{room, next, last, looks, no_digit}
use Rattle.texts.proofs.number.number.Goals as goal

pub returns-then-is_empty : goal.returns-then-is_empty
returns-then-is_empty c n w = let h = looks c.args.max_digits n c.args.s.now w in grind (arith, common_steps)

pub returns-in_err-digit : goal.returns-in_err-digit
returns-in_err-digit c = rw c.from_residual.ensures (no_digit c.args.max_digits c.args.s.now c.loop-byte.byte-index (omega arith) c.in_err-digit.ensures)

pub overflow_mul-n : goal.overflow_mul-n
overflow_mul-n c = omega (arith, room c.args.s.now c.loop-byte.byte-index c.loop-byte.n (omega arith) c.loop-byte.invariant)

pub overflow_add-n : goal.overflow_add-n
overflow_add-n c = omega (arith, room c.args.s.now c.loop-byte.byte-index c.loop-byte.n (omega arith) c.loop-byte.invariant, c.in_ok-digit.ensures.0)

pub loop-byte-preserved : goal.loop-byte-preserved
loop-byte-preserved c = rw c.from.ensures (next c.args.s.now c.loop-byte.byte-index c.loop-byte.n _ (omega arith) c.in_ok-digit.ensures.0 c.in_ok-digit.ensures.1 c.loop-byte.invariant)

pub returns : goal.returns
returns c = last c.args.max_digits c.loop-byte.byte-index c.loop-byte.n c.args.s.now (omega arith) c.loop-byte.invariant (grind (arith, common_steps)) (omega arith) (omega arith) (grind (arith, common_steps))
