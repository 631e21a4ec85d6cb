-- Padding the message (FIPS 180-4, 5.1.1).
use Rattle.std.specs.Prelude.{◌≡◌, ℕ, zero, suc, ◌+◌, ◌-◌, ◌*◌, ◌/◌, ◌%◌, ◌^◌, ◌<◌, List, [], ◌∷◌, ◌++◌, length, replicate}
use Rattle.std.specs.List.{AllByRecursion}
use Rattle.hashes.specs.BigEndian.{big_endian}

-- how many zero bytes make n bytes, one byte more, these and eight more a multiple of 64
abbrev pub zeros : ℕ → ℕ
zeros n = (119 - n % 64) % 64

-- what follows a message of n bytes: a 1 bit, zero bits, and its length in bits modulo 2^64
unfoldable pub padding : ℕ → List ℕ
padding n = 128 ∷ (replicate (zeros n) 0 ++ big_endian 8 (8 * n % 2 ^ 64))

unfoldable pub padded : List ℕ → List ℕ
padded message = message ++ padding (length message)

-- the bits of a string of bytes, of each byte the highest first
abbrev pub bits : List ℕ → List ℕ
bits [] = []
bits (b ∷ bs) = (b / 128 % 2) ∷ (b / 64 % 2) ∷ (b / 32 % 2) ∷ (b / 16 % 2) ∷ (b / 8 % 2) ∷ (b / 4 % 2) ∷ (b / 2 % 2) ∷ (b % 2) ∷ bits bs

-- the lowest n bits of x, the highest of them first
abbrev pub binary : ℕ → ℕ → List ℕ
binary zero x = []
binary (suc n) x = (x / 2 ^ n % 2) ∷ binary n x

-- p is the message padded, in bytes: the message, a byte with its highest bit set, fewer than 64 zero bytes, and the length
-- in bits modulo 2^64 in eight bytes, together a multiple of 64 bytes
pub record PaddedBytes (message p : List ℕ) : Type 0 where
  pub zero_bytes : ℕ
  pub few : zero_bytes < 64
  pub parts : p ≡ message ++ (128 ∷ (replicate zero_bytes 0 ++ big_endian 8 (8 * length message % 2 ^ 64)))
  pub whole : length p % 64 ≡ 0

-- the same in bits, as the standard says it: the message, one 1 bit, k zero bits, where k is the least that makes the
-- length 448 modulo 512, and the length of the message in 64 bits
pub record PaddedBits (message p : List ℕ) : Type 0 where
  pub k : ℕ
  pub least : k < 512
  pub fills : (length (bits message) + 1 + k) % 512 ≡ 448
  pub parts : bits p ≡ bits message ++ (1 ∷ (replicate k 0 ++ binary 64 (length (bits message) % 2 ^ 64)))

-- every message has this padding and no other, in bytes and in the bits of bytes
abbrev pub PaddingLaw : Type 0
PaddingLaw =
    (message : List ℕ) → PaddedBytes message (padded message) × PaddedBits message (padded message)
    × ((p : List ℕ) → PaddedBytes message p → p ≡ padded message)
    × (AllByRecursion (λ b. b < 256) message → (p : List ℕ) → AllByRecursion (λ b. b < 256) p → PaddedBits message p → p ≡ padded message)
