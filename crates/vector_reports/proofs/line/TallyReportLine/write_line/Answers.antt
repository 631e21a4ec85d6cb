use Rattle.vector_files.proofs.Tallies.{tally_law}
use Rattle.vector_reports.proofs.line.TallyReportLine.write_line.Goals as goal

pub returns-clause-counts : goal.returns-clause-counts
returns-clause-counts c = tally_law
