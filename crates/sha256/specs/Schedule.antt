-- The message schedule (FIPS 180-4, 6.2.2, step 1).
use Rattle.std.specs.Prelude.{◌≡◌, ℕ, zero, suc, ◌+◌, ◌-◌, ◌*◌, ◌^◌, ◌<◌, ◌≤◌, List, [], ◌∷◌, ◌++◌, length, slice_index}
use Rattle.sha256.specs.Words.{plus, σ0, σ1}

-- the word t of a block: four bytes, the highest first
abbrev pub word : List ℕ → ℕ → ℕ
word block t = slice_index block (4 * t) * 2 ^ 24 + slice_index block (4 * t + 1) * 2 ^ 16 + slice_index block (4 * t + 2) * 2 ^ 8 + slice_index block (4 * t + 3)

-- the words of a string of bytes
abbrev pub words : List ℕ → List ℕ
words [] = []
words (a ∷ []) = []
words (a ∷ b ∷ []) = []
words (a ∷ b ∷ c ∷ []) = []
words (a ∷ b ∷ c ∷ d ∷ rest) = (a * 2 ^ 24 + b * 2 ^ 16 + c * 2 ^ 8 + d) ∷ words rest

-- the word t from the words t-2, t-7, t-15 and t-16
unfoldable pub next : ℕ → ℕ → ℕ → ℕ → ℕ
next w2 w7 w15 w16 = plus (plus (plus (σ1 w2) w7) (σ0 w15)) w16

-- one word more, from the words so far
unfoldable pub grow : List ℕ → List ℕ
grow ws =
    ws ++ next (slice_index ws (length ws - 2)) (slice_index ws (length ws - 7)) (slice_index ws (length ws - 15)) (slice_index ws (length ws - 16)) ∷ []

-- n words more
abbrev pub grown : ℕ → List ℕ → List ℕ
grown zero ws = ws
grown (suc n) ws = grown n (grow ws)

-- the schedule of a block of 64 bytes: its 16 words and 48 more
unfoldable pub schedule : List ℕ → List ℕ
schedule block = grown 48 (words block)

-- ws is the schedule of the block, as the standard says it: 64 words, the first 16 those of the block, and each later one
-- the stated sum of four earlier ones modulo 2^32
pub record Schedule (block ws : List ℕ) : Type 0 where
  pub long : length ws ≡ 64
  pub first : (t : ℕ) → t < 16 → slice_index ws t ≡ word block t
  pub later : (t : ℕ) → 16 ≤ t → t < 64 → slice_index ws t ≡ plus (plus (plus (σ1 (slice_index ws (t - 2))) (slice_index ws (t - 7))) (σ0 (slice_index ws (t - 15)))) (slice_index ws (t - 16))

-- every block of 64 bytes has this schedule and no other
abbrev pub ScheduleLaw : Type 0
ScheduleLaw = (block : List ℕ) → length block ≡ 64 → Schedule block (schedule block) × ((ws : List ℕ) → Schedule block ws → ws ≡ schedule block)
