use Rattle.std.proofs.Common.{◌≡◌, ◌+◌, ◌*◌, ◌≤◌, length}
use Rattle.std.specs.Iterator.Adapters.{enumerate_count, enumerate_source}
use Rattle.std.specs.Slice.Iter.{chunks_rest, chunks_size}
use Rattle.recordings.specs.Recordings.{recordings}
use Rattle.inventories.specs.Texts.{entry_lines}
use Rattle.inventories.proofs.lengths.entries_len.Given as goal

-- the lines so far and those that are left are as long as all lines
abbrev pub invariant-loop-number : goal.invariant-loop-number
invariant-loop-number l = record {
  size : chunks_size (enumerate_source l.number-iterator) ≡ 4096;
  left : enumerate_count l.number-iterator + length (recordings (chunks_rest (enumerate_source l.number-iterator))) ≡ length (recordings l.library);
  few : l.total ≤ 124 * enumerate_count l.number-iterator;
  lines : l.total + length (entry_lines (enumerate_count l.number-iterator) (recordings (chunks_rest (enumerate_source l.number-iterator)))) ≡ length (entry_lines 0 (recordings l.library));
}
