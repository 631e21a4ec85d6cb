use Rattle.std.proofs.Common.{◌++◌, length, ap, zero-add}
use Rattle.sha256.specs.Message.{digest_of, initial, over, sha256}
use Rattle.sha256.specs.Padding.{padded, padding}
use Rattle.sha256.specs.Running.{pending, sha_from}
use Rattle.sha256.proofs.Constants.{initial_law}
use Rattle.sha256.proofs.running.Sha256RunningHash.fresh.Goals as goal

pub returns : goal.returns
unfolding sha_from sha256 pending padded
returns c =
    record {
      meaning = λ i rest. ap (λ n. digest_of (over initial (rest ++ padding n))) (zero-add (length rest)) i;
      initial = initial_law;
    }
