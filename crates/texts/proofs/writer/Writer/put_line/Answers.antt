use Rattle.std.proofs.Common.{sym, arith, ltb-false, ltb-true}
use Rattle.texts.proofs.Chains.{puts_then, puts_same, room_after}
use Rattle.texts.proofs.Tabs.{line_parts}
use Rattle.texts.proofs.writer.Writer.put_line.Goals as goal

pub put_behind-requires : goal.put_behind-requires
put_behind-requires c = room_after _ _ (line_parts c.args.fields.now (omega (arith, ltb-true, ltb-false))) c.requires c.put_field.ensures

pub returns-in-len1-up : goal.returns-in-len1-up
returns-in-len1-up c = puts_same (sym (line_parts c.args.fields.now (omega (arith, ltb-true, ltb-false)))) (puts_then c.put_field.ensures c.put_behind.ensures)
