-- Where the constants of the standard come from (FIPS 180-4, 4.2.2 and 5.3.3): the first 32 bits of the fractional parts of
-- the square roots of the first 8 primes and of the cube roots of the first 64.
use Rattle.std.specs.Prelude.{◌≡◌, ℕ, zero, suc, ◌+◌, ◌*◌, ◌%◌, ◌^◌, ◌<◌, ◌≤◌, Bool, true, cond, not, ◌&&◌, List, [], ◌∷◌, length, ◌==◌, slice_index}
use Rattle.sha256.specs.Compression.{constants}
use Rattle.sha256.specs.Message.{initial}

-- no number from 2 to k divides n
abbrev pub undivided : ℕ → ℕ → Bool
undivided n zero = true
undivided n (suc zero) = true
undivided n (suc (suc k)) = not (n % suc (suc k) == 0) && undivided n (suc k)

-- the primes among the k numbers after n
abbrev pub primes_from : ℕ → ℕ → List ℕ
primes_from n zero = []
primes_from n (suc k) = cond (undivided (suc n) n) (suc n ∷ primes_from (suc n) k) (primes_from (suc n) k)

-- the primes from 2 to 311: the first 64
unfoldable pub primes : List ℕ
primes = primes_from 1 310

-- w is the first 32 bits of the fractional part of the e-th root of p: `root` is that root times 2^32, rounded down
pub record RootBits (e p w : ℕ) : Type 0 where
  pub root : ℕ
  pub low : root ^ e ≤ p * 2 ^ (32 * e)
  pub high : p * 2 ^ (32 * e) < (root + 1) ^ e
  pub bits : w ≡ root % 2 ^ 32

-- each word of the list is made from the e-th root of the prime at its place
abbrev pub Roots : ℕ → List ℕ → Type 0
Roots e ws = (t : ℕ) → t < length ws → RootBits e (slice_index primes t) (slice_index ws t)

abbrev pub initial_words : List ℕ
initial_words = initial.a ∷ initial.b ∷ initial.c ∷ initial.d ∷ initial.e ∷ initial.f ∷ initial.g ∷ initial.h ∷ []

-- the eight words of the initial hash value
abbrev pub InitialLaw : Type 0
InitialLaw = Roots 2 initial_words

-- the 64 constants of the rounds
abbrev pub ConstantsLaw : Type 0
ConstantsLaw = (length constants ≡ 64) × (length primes ≡ 64) × Roots 3 constants
