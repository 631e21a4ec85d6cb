-- What is worked out of a string of bytes.
use Rattle.std.specs.Prelude.{◌≡◌, ℕ, List}
use Rattle.hashes.specs.Digests.{digest_bytes}
use Rattle.hashes.specs.Fnv.{fnv1a}
use Rattle.sha256.specs.Message.{sha256}
use Rattle.inventories.specs.declared.digests.Digests.{Digests}

-- d has the two digests of the bytes
pub record DigestsOf (bytes : List ℕ) (d : Digests) : Type 0 where
  pub fnv : digest_bytes d.fnv ≡ fnv1a bytes
  pub sha : digest_bytes d.sha ≡ sha256 bytes
