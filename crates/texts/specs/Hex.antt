use Rattle.std.specs.Prelude.{◌≡◌, ℕ, ◌/◌, ◌%◌, ◌<◌, ◌≤◌, List, [], ◌∷◌, ◌++◌, length, drop, Some, None, Option}
use Rattle.std.specs.Char.{digit_char}
use Rattle.std.specs.List.{AllByRecursion}

-- two lowercase hex digits for each byte, the upper half first
abbrev pub hex : List ℕ → List ℕ
hex [] = []
hex (b ∷ bs) = digit_char (b / 16) ∷ (digit_char (b % 16) ∷ hex bs)

-- each number of the list is a byte
abbrev pub Bytes : List ℕ → Type 0
Bytes bs = AllByRecursion (λ b. b < 256) bs

-- text is what the bytes bs look like in hex
pub record HexOf (text bs : List ℕ) : Type 0 where
  pub bytes : Bytes bs
  pub written : text ≡ hex bs

-- text is the hex text of some bytes
abbrev pub IsHex : List ℕ → Type 0
IsHex text = (bs : List ℕ) × HexOf text bs

-- The bytes that text writes in hex go to the front of a buffer, and its rest stays; the answer is how many they are.
-- Where text is hex of no bytes, or of more than the buffer holds, the answer is absent and the buffer is as it was.
abbrev pub Decoded : List ℕ → List ℕ → List ℕ → Option ℕ → Type 0
Decoded text old new None = ((bs : List ℕ) → HexOf text bs → length bs ≤ length old → ⊥) × (new ≡ old)
Decoded text old new (Some n) =
    (bs : List ℕ) × HexOf text bs × (length bs ≡ n) × (n ≤ length old) × (new ≡ bs ++ drop n old)
