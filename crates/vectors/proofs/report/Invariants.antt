use Rattle.std.proofs.Common.{◌≡◌, ℕ, List, length, vec_len}
use Rattle.texts.specs.Readers.{left_of, passed_of}
use Rattle.vector_files.specs.declared.tally.Tally.{Tally}
use Rattle.vector_reports.proofs.Progress.{Reported}
use Rattle.vectors.proofs.report.Given as goal

-- what the text so far lacks of the report, and a buffer that stays as long as it was
pub record Made (file text left : List ℕ) (room passed : ℕ) (tally : Tally) : Type 0 where
  pub long : room ≡ 1048576
  pub reported : Reported 1048576 file text passed left tally

abbrev pub invariant-loop-record : goal.invariant-loop-record
invariant-loop-record l = Made l.file l.text.items (left_of l.reader) (vec_len l.messages) (passed_of l.reader) l.tally

abbrev pub decreases-loop-record : goal.decreases-loop-record
decreases-loop-record l = length (left_of l.reader)
