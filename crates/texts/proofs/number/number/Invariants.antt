use Rattle.texts.proofs.Numerals.{Read}
use Rattle.texts.proofs.number.number.Given as goal

abbrev pub invariant-loop-byte : goal.invariant-loop-byte
invariant-loop-byte l = Read l.s l.byte-index l.n
