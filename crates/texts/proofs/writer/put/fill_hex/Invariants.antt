use Rattle.std.proofs.Common.{drop}
use Rattle.texts.specs.Hex.{hex}
use Rattle.texts.proofs.Chains.{Writing}
use Rattle.texts.proofs.writer.put.fill_hex.Given as goal

abbrev pub invariant-loop-byte : goal.invariant-loop-byte
invariant-loop-byte l = Writing l.initial.writer (hex l.bytes) l.writer (hex (drop l.byte-index l.bytes))
