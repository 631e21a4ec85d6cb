use Rattle.std.proofs.Common.{length}
use Rattle.texts.specs.Readers.{left_of}
use Rattle.vector_files.proofs.Walks.{Still}
use Rattle.vector_files.proofs.entry.next_entry.Given as goal

abbrev pub invariant-loop-line : goal.invariant-loop-line
invariant-loop-line l = Still l.initial.reader l.reader

abbrev pub decreases-loop-line : goal.decreases-loop-line
decreases-loop-line l = length (left_of l.reader)
