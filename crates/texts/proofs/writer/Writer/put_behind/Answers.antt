use Rattle.std.proofs.Common.{length, sym, ap, arith}
use Rattle.texts.proofs.Chains.{puts_then, puts_same, writing_more}
use Rattle.texts.proofs.Tabs.{behind_next, behind_end}
use Rattle.texts.proofs.writer.Writer.put_behind.Goals as goal

pub put_byte-requires : goal.put_byte-requires
put_byte-requires c = omega (arith, ap length (behind_next c.args.fields.now c.loop-field.field-index (omega arith)), c.loop-field.invariant.room)

pub loop-field-preserved : goal.loop-field-preserved
loop-field-preserved c =
    writing_more _ _ (behind_next c.args.fields.now c.loop-field.field-index (omega arith)) c.loop-field.invariant (puts_then c.put_byte.ensures c.put_field.ensures)

pub returns : goal.returns
returns c = c.loop-field.invariant.go _ (puts_same (sym (behind_end c.args.fields.now c.loop-field.field-index (omega arith))) c.put_byte-2.ensures)
