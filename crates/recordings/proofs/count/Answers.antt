use Rattle.std.proofs.Common.{arith}
use Rattle.recordings.proofs.Cuts.{length-recordings, only_cut}
use Rattle.recordings.proofs.count.Goals as goal

pub returns-clause-number : goal.returns-clause-number
returns-clause-number c = omega (arith, length-recordings)

pub returns-clause-cut : goal.returns-clause-cut
returns-clause-cut c = only_cut c.args.library.now
