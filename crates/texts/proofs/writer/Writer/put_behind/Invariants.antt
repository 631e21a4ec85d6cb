use Rattle.std.proofs.Common.{map, drop}
use Rattle.texts.specs.Lines.{behind, field_text}
use Rattle.texts.proofs.Chains.{Writing}
use Rattle.texts.proofs.writer.Writer.put_behind.Given as goal

abbrev pub invariant-loop-field : goal.invariant-loop-field
invariant-loop-field l = Writing l.initial.self (behind (map field_text l.fields)) l.self (behind (map field_text (drop l.field-index l.fields)))
