-- What a digest stands for.
use Rattle.std.specs.Prelude.{ℕ, ◌≤◌, List, take}
use Rattle.hashes.specs.declared.digest.Digest.{Digest}

-- a digest may have n bytes: 1 to 32
pub record DigestLength (n : ℕ) : Type 0 where
  pub some : 1 ≤ n
  pub few : n ≤ 32

-- the bytes of a digest
abbrev pub digest_bytes : Digest → List ℕ
digest_bytes d = take d.width d.bytes
