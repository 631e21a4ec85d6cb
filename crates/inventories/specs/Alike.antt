-- What a record tells.
use Rattle.std.specs.Prelude.{◌≡◌, ℕ, List, length}
use Rattle.std.specs.List.{AllZip}
use Rattle.hashes.specs.Fnv.{fnv1a}
use Rattle.sha256.specs.Message.{sha256}
use Rattle.recordings.specs.Recordings.{recordings}
use Rattle.inventories.specs.Texts.{inventory_text}

-- two strings of bytes are as long, and have the same two digests
pub record Alike (a b : List ℕ) : Type 0 where
  pub long : length a ≡ length b
  pub fnv : fnv1a a ≡ fnv1a b
  pub sha : sha256 a ≡ sha256 b

-- Two libraries have the same record exactly when they have as many recordings, which are alike one by one, and
-- are alike as a whole.
pub record SameRecord (a b : List ℕ) : Type 0 where
  pub told : inventory_text a ≡ inventory_text b → AllZip Alike (recordings a) (recordings b) × Alike a b
  pub same : AllZip Alike (recordings a) (recordings b) → Alike a b → inventory_text a ≡ inventory_text b
