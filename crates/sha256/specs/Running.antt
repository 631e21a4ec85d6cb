-- What a running SHA-256 means.
use Rattle.std.specs.Prelude.{◌≡◌, ℕ, ◌+◌, ◌%◌, ◌^◌, List, ◌++◌, length, take}
use Rattle.sha256.specs.Padding.{padding}
use Rattle.sha256.specs.Message.{over, left, digest_of}
use Rattle.sha256.specs.declared.running.Sha256.{Sha256}

-- the bytes that it holds back, less than a block
unfoldable pub pending : Sha256 → List ℕ
pending h = take (h.total % 64) h.buffer

-- its digest for the bytes still to come
unfoldable pub sha_from : Sha256 → List ℕ → List ℕ
sha_from h rest = digest_of (over h.state (pending h ++ (rest ++ padding (h.total + length rest))))

-- g is h after these bytes: all whole blocks are hashed, and the bytes after the last of them are held back
pub record Fed (h g : Sha256) (bytes : List ℕ) : Type 0 where
  pub total : g.total ≡ (h.total + length bytes) % 2 ^ 64
  pub state : g.state ≡ over h.state (pending h ++ bytes)
  pub rest : pending g ≡ left (pending h ++ bytes)
