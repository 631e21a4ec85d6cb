use Rattle.std.proofs.Common.{refl}
use Rattle.vector_reports.proofs.Single.{entry_law}
use Rattle.vector_reports.proofs.Sole.{one_report}
use Rattle.vector_reports.proofs.record.next_record.Goals as goal

pub returns-in_err-entry : goal.returns-in_err-entry
returns-in_err-entry c = rw c.from_residual.ensures (record { next = (c.in_err-entry.ensures, refl); entries = entry_law; reports = one_report })

pub returns : goal.returns
returns c = record { next = (c.in_ok-entry.entry, c.in_ok-entry.ensures, c.examine.ensures); entries = entry_law; reports = one_report }
