use Rattle.std.proofs.Common.{arith, sym, ap, length}
use Rattle.std.proofs.lemmas.Fmt.{decimal_digit}
use Rattle.texts.proofs.Numerals.{length_by_power}
use Rattle.texts.proofs.writer.put.number_len.Goals as goal

pub returns-in-Some : goal.returns-in-Some
returns-in-Some c =
    let e = length_by_power c.args.n c.in-Some.log (omega arith) c.in-Some.ensures.power_le c.in-Some.ensures.next_power_gt in
    record { value = sym e; few = omega (arith, c.in-Some.ensures.bound) }

pub returns-in-None : goal.returns-in-None
returns-in-None c = record { value = sym (ap length (decimal_digit c.args.n (omega (arith, c.in-None.ensures.none)))); few = omega arith }
