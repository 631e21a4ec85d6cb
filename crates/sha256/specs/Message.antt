-- SHA-256 of a message (FIPS 180-4, 5.2.1, 5.3.3 and 6.2).
use Rattle.std.specs.Prelude.{◌≡◌, ℕ, ◌*◌, ◌/◌, List, ◌++◌, length, drop, fold}
use Rattle.std.specs.Simd.{first_chunks}
use Rattle.std.specs.List.{concat, AllByRecursion}
use Rattle.hashes.specs.BigEndian.{big_endian}
use Rattle.hashes.specs.Traces.{OneTrace}
use Rattle.sha256.specs.Compression.{compressed}
use Rattle.sha256.specs.Padding.{padded}
use Rattle.sha256.specs.declared.compression.State.{State}

-- the whole blocks of 64 bytes, in order
abbrev pub blocks : List ℕ → List (List ℕ)
blocks bytes = first_chunks 64 (length bytes / 64) bytes

-- the hash value after these blocks
unfoldable pub over : State → List ℕ → State
over s bytes = fold compressed s (blocks bytes)

-- the bytes after the last whole block
unfoldable pub left : List ℕ → List ℕ
left bytes = drop (length bytes / 64 * 64) bytes

-- the eight words of a hash value, each with its highest byte first
unfoldable pub digest_of : State → List ℕ
digest_of s =
    big_endian 4 s.a ++ (big_endian 4 s.b ++ (big_endian 4 s.c ++ (big_endian 4 s.d
    ++ (big_endian 4 s.e ++ (big_endian 4 s.f ++ (big_endian 4 s.g ++ big_endian 4 s.h))))))

abbrev pub initial : State
initial =
    record { a = 0x6a09e667; b = 0xbb67ae85; c = 0x3c6ef372; d = 0xa54ff53a; e = 0x510e527f; f = 0x9b05688c; g = 0x1f83d9ab; h = 0x5be0cd19 }

-- SHA-256 of a message
unfoldable pub sha256 : List ℕ → List ℕ
sha256 message = digest_of (over initial (padded message))

-- bs are the blocks of bytes: joined they are those bytes, and each has 64
pub record Parsed (bytes : List ℕ) (bs : List (List ℕ)) : Type 0 where
  pub whole : concat bs ≡ bytes
  pub each : AllByRecursion (λ b. length b ≡ 64) bs

-- every padded message is cut into these blocks, and in no other way
abbrev pub BlocksLaw : Type 0
BlocksLaw =
    (message : List ℕ) → Parsed (padded message) (blocks (padded message))
    × ((bs : List (List ℕ)) → Parsed (padded message) bs → bs ≡ blocks (padded message))

-- the hash values of every message: the initial one, and after each block what the block makes of the one before; the last
-- of them gives the digest
abbrev pub ChainLaw : Type 0
ChainLaw = (message : List ℕ) → OneTrace compressed initial (blocks (padded message)) (over initial (padded message))
