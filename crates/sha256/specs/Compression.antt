-- The hash computation of one block (FIPS 180-4, 4.2.2 and 6.2.2, steps 2 to 4).
use Rattle.std.specs.Prelude.{◌≡◌, ℕ, List, [], ◌∷◌, length, slice_index}
use Rattle.std.specs.List.{range_with_len}
use Rattle.hashes.specs.Traces.{OneTrace}
use Rattle.sha256.specs.Words.{plus, ch, maj, Σ0, Σ1}
use Rattle.sha256.specs.Schedule.{schedule}
use Rattle.sha256.specs.declared.compression.State.{State}

-- the two sums of a round with the constant k and the word w
unfoldable pub t_1 : State → ℕ → ℕ → ℕ
t_1 s k w = plus (plus (plus (plus s.h (Σ1 s.e)) (ch s.e s.f s.g)) k) w

unfoldable pub t_2 : State → ℕ
t_2 s = plus (Σ0 s.a) (maj s.a s.b s.c)

-- the working variables after one round
unfoldable pub round : State → ℕ → ℕ → State
round s k w =
    record { a = plus (t_1 s k w) (t_2 s); b = s.a; c = s.b; d = s.c; e = plus s.d (t_1 s k w); f = s.e; g = s.f; h = s.g }

-- the rounds with the constants ks and the words ws
abbrev pub rounds : State → List ℕ → List ℕ → State
rounds s [] ws = s
rounds s (k ∷ ks) [] = s
rounds s (k ∷ ks) (w ∷ ws) = rounds (round s k w) ks ws

-- two hash values, word by word
unfoldable pub state_sum : State → State → State
state_sum s t =
    record { a = plus s.a t.a; b = plus s.b t.b; c = plus s.c t.c; d = plus s.d t.d; e = plus s.e t.e; f = plus s.f t.f; g = plus s.g t.g; h = plus s.h t.h }

unfoldable pub constants : List ℕ
constants =
    0x428a2f98 ∷ 0x71374491 ∷ 0xb5c0fbcf ∷ 0xe9b5dba5 ∷ 0x3956c25b ∷ 0x59f111f1 ∷ 0x923f82a4 ∷ 0xab1c5ed5 ∷
    0xd807aa98 ∷ 0x12835b01 ∷ 0x243185be ∷ 0x550c7dc3 ∷ 0x72be5d74 ∷ 0x80deb1fe ∷ 0x9bdc06a7 ∷ 0xc19bf174 ∷
    0xe49b69c1 ∷ 0xefbe4786 ∷ 0x0fc19dc6 ∷ 0x240ca1cc ∷ 0x2de92c6f ∷ 0x4a7484aa ∷ 0x5cb0a9dc ∷ 0x76f988da ∷
    0x983e5152 ∷ 0xa831c66d ∷ 0xb00327c8 ∷ 0xbf597fc7 ∷ 0xc6e00bf3 ∷ 0xd5a79147 ∷ 0x06ca6351 ∷ 0x14292967 ∷
    0x27b70a85 ∷ 0x2e1b2138 ∷ 0x4d2c6dfc ∷ 0x53380d13 ∷ 0x650a7354 ∷ 0x766a0abb ∷ 0x81c2c92e ∷ 0x92722c85 ∷
    0xa2bfe8a1 ∷ 0xa81a664b ∷ 0xc24b8b70 ∷ 0xc76c51a3 ∷ 0xd192e819 ∷ 0xd6990624 ∷ 0xf40e3585 ∷ 0x106aa070 ∷
    0x19a4c116 ∷ 0x1e376c08 ∷ 0x2748774c ∷ 0x34b0bcb5 ∷ 0x391c0cb3 ∷ 0x4ed8aa4a ∷ 0x5b9cca4f ∷ 0x682e6ff3 ∷
    0x748f82ee ∷ 0x78a5636f ∷ 0x84c87814 ∷ 0x8cc70208 ∷ 0x90befffa ∷ 0xa4506ceb ∷ 0xbef9a3f7 ∷ 0xc67178f2 ∷
    []

-- the hash value after one block more
unfoldable pub compressed : State → List ℕ → State
compressed s block = state_sum s (rounds s constants (schedule block))

-- the working variables of every block of 64 bytes: before the first round those of the hash value, and after the round t
-- what that round makes with the constant t and the word t of the schedule
abbrev pub RoundsLaw : Type 0
RoundsLaw =
    (s : State) (block : List ℕ) → length block ≡ 64
    → OneTrace (λ v t. round v (slice_index constants t) (slice_index (schedule block) t)) s (range_with_len 0 64) (rounds s constants (schedule block))
