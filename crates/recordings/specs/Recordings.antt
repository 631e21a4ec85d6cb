-- How the bytes of a library are cut into recordings.
use Rattle.std.specs.Prelude.{◌≡◌, ℕ, ◌+◌, ◌*◌, ◌/◌, ◌<◌, ◌≤◌, List, [], map, length, take, drop, slice_index_or}
use Rattle.std.specs.List.{range_with_len, concat}

-- The recordings of a library, in order: recording j begins at byte 4,096·j, and there are as many as begin within it.
unfoldable pub recordings : List ℕ → List (List ℕ)
recordings library = map (λ j. take 4096 (drop (j * 4096) library)) (range_with_len 0 ((length library + 4095) / 4096))

-- The pieces are the library, cut every 4,096 bytes.
pub record Cut (library : List ℕ) (pieces : List (List ℕ)) : Type 0 where
  -- joined in order they are the library
  pub whole : concat pieces ≡ library
  -- each but the last has exactly 4,096 bytes
  pub full : (j : ℕ) → j + 1 < length pieces → length (slice_index_or pieces j []) ≡ 4096
  -- the last one has 1 to 4,096
  pub last : (j : ℕ) → j + 1 ≡ length pieces → (1 ≤ length (slice_index_or pieces j [])) × (length (slice_index_or pieces j []) ≤ 4096)

-- The pieces are such a cut of the library, and there is no other.
pub record OnlyCut (library : List ℕ) (pieces : List (List ℕ)) : Type 0 where
  pub cut : Cut library pieces
  pub only : (others : List (List ℕ)) → Cut library others → others ≡ pieces
