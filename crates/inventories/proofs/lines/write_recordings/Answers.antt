use Rattle.std.proofs.Common.{ap, ◌∙◌}
use Rattle.inventories.specs.Texts.{entry_lines}
use Rattle.texts.proofs.Chains.{writing_done}
use Rattle.recordings.proofs.Cuts.{recordings_step, recordings_end}
use Rattle.inventories.proofs.EntryLines.{entry_room, entry_written}
use Rattle.inventories.proofs.lines.write_recordings.Goals as goal

pub write_entry-requires : goal.write_entry-requires
write_entry-requires c =
    let steps = c.in-Some.ensures.steps in
    let more = recordings_step c.loop-number.number-iterator.iter c.next.new.self.iter c.in-Some.recording c.loop-number.invariant.size steps.0 in
    entry_room c.loop-number.writer more steps.1 c.loop-number.invariant.lines.room

pub loop-number-preserved : goal.loop-number-preserved
loop-number-preserved c =
    let steps = c.in-Some.ensures.steps in
    let more = recordings_step c.loop-number.number-iterator.iter c.next.new.self.iter c.in-Some.recording c.loop-number.invariant.size steps.0 in
    record { size = steps.0.0 ∙ c.loop-number.invariant.size; lines = entry_written more steps.1 steps.2 c.loop-number.invariant.lines c.write_entry.ensures }

pub returns : goal.returns
returns c =
    let none = recordings_end c.loop-number.number-iterator.iter c.next.new.self.iter c.in-None.ensures.steps.0 in
    writing_done (ap (entry_lines c.loop-number.number-iterator.count) none) c.loop-number.invariant.lines
