use Rattle.std.proofs.Common.{length, ap, ◌∙◌, arith}
use Rattle.recordings.proofs.Cuts.{length-recordings, recordings_step, recordings_end}
use Rattle.inventories.proofs.EntryLines.{length_entries_more}
use Rattle.inventories.proofs.lengths.entries_len.Goals as goal

pub overflow_add-total : goal.overflow_add-total
overflow_add-total c =
    let more = recordings_step c.loop-number.number-iterator.iter c.next.new.self.iter c.in-Some.recording c.loop-number.invariant.size c.in-Some.ensures.steps.0 in
    omega (arith, ap length more, length-recordings c.args.library.now)

pub loop-number-preserved : goal.loop-number-preserved
loop-number-preserved c =
    let steps = c.in-Some.ensures.steps in
    let more = recordings_step c.loop-number.number-iterator.iter c.next.new.self.iter c.in-Some.recording c.loop-number.invariant.size steps.0 in
    let lines = length_entries_more c.loop-number.number-iterator.count more in
    record {
      size = steps.0.0 ∙ c.loop-number.invariant.size;
      left = omega (arith, ap length more, steps.2);
      few = omega (arith, steps.2);
      lines = grind (arith, lines, steps);
    }

pub returns-clause-value : goal.returns-clause-value
returns-clause-value c =
    let none = recordings_end c.loop-number.number-iterator.iter c.next.new.self.iter c.in-None.ensures.steps.0 in
    grind (arith, none)
