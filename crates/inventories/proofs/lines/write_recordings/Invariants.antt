use Rattle.std.proofs.Common.{◌≡◌}
use Rattle.std.specs.Iterator.Adapters.{enumerate_count, enumerate_source}
use Rattle.std.specs.Slice.Iter.{chunks_rest, chunks_size}
use Rattle.texts.proofs.Chains.{Writing}
use Rattle.recordings.specs.Recordings.{recordings}
use Rattle.inventories.specs.Texts.{entry_lines}
use Rattle.inventories.proofs.lines.write_recordings.Given as goal

abbrev pub invariant-loop-number : goal.invariant-loop-number
invariant-loop-number l = record {
  size : chunks_size (enumerate_source l.number-iterator) ≡ 4096;
  lines : Writing l.initial.writer (entry_lines 0 (recordings l.library)) l.writer (entry_lines (enumerate_count l.number-iterator) (recordings (chunks_rest (enumerate_source l.number-iterator))));
}
