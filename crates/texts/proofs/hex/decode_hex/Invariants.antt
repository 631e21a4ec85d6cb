use Rattle.std.proofs.Common.{ℕ, List, drop}
use Rattle.texts.specs.Hex.{HexOf}
use Rattle.texts.proofs.Chains.{Writing}
use Rattle.texts.proofs.hex.decode_hex.Given as goal

abbrev pub invariant-loop-hi : goal.invariant-loop-hi
invariant-loop-hi l = (bs : List ℕ) → HexOf l.text bs → Writing l.initial.writer bs l.writer (drop l.hi-index bs)
