use Rattle.std.proofs.Common.{◌≡◌, ◌+◌, ◌^◌, ◌<◌, map, length, drop}
use Rattle.texts.specs.Lines.{field_text, line_of}
use Rattle.texts.proofs.Tabs.{size}
use Rattle.texts.proofs.writer.line.line_len.Given as goal

abbrev pub invariant-loop-field : goal.invariant-loop-field
invariant-loop-field l =
    (l.total < 2 ^ 64) × (l.total + size (map field_text (drop l.field-index l.fields)) ≡ length (line_of l.fields))
