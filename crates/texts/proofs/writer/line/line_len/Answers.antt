use Rattle.std.proofs.Common.{arith, rules}
use Rattle.texts.proofs.Tabs.{length-line_of}
use Rattle.texts.proofs.writer.line.line_len.Goals as goal

pub loop-field-init : goal.loop-field-init
loop-field-init c = (omega arith, omega (arith, length-line_of c.args.fields.now (search rules)))
