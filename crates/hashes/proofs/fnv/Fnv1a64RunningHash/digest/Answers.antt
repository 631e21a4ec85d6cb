use Rattle.hashes.specs.Fnv.{fnv_basis, fnv_step}
use Rattle.hashes.proofs.Steps.{one_trace}
use Rattle.hashes.proofs.fnv.Fnv1a64RunningHash.digest.Goals as goal

pub returns-clause-values : goal.returns-clause-values
returns-clause-values c = one_trace fnv_step fnv_basis
