-- Where a byte first stands in a text.
use Rattle.std.specs.Prelude.{◌≡◌, ℕ, ◌<◌, List, ◌∷◌, ◌++◌, length, ◌≢◌, slice_index}

-- the byte b stands nowhere in xs
abbrev pub Lacks : ℕ → List ℕ → Type 0
Lacks b xs = (k : ℕ) → k < length xs → slice_index xs k ≢ b

-- xs is the part before its first b, that b, and the rest
pub record FirstCut (b : ℕ) (xs part rest : List ℕ) : Type 0 where
  pub whole : xs ≡ part ++ (b ∷ rest)
  pub first : Lacks b part
