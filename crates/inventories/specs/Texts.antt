-- The text of a library's record.
use Rattle.std.specs.Prelude.{ℕ, ◌+◌, List, [], ◌∷◌, ◌++◌, length, codes, decimal}
use Rattle.texts.specs.Hex.{hex}
use Rattle.texts.specs.Lines.{line}
use Rattle.hashes.specs.Fnv.{fnv1a}
use Rattle.sha256.specs.Message.{sha256}
use Rattle.recordings.specs.Recordings.{recordings}

-- A line of a record: what it speaks of, a number, and the two digests of some bytes in hex, FNV-1a 64 and SHA-256.
unfoldable pub record_line : List ℕ → ℕ → List ℕ → List ℕ
record_line name number bytes = line (name ∷ (decimal number ∷ (hex (fnv1a bytes) ∷ (hex (sha256 bytes) ∷ []))))

-- the lines of recordings that are numbered from here on: the number of each, and its length
abbrev pub entry_lines : ℕ → List (List ℕ) → List ℕ
entry_lines number [] = []
entry_lines number (recording ∷ more) = record_line (decimal number) (length recording) recording ++ entry_lines (number + 1) more

-- the last line: a word, how many recordings there are, and the digests of the whole library
abbrev pub last_line : List ℕ → List ℕ
last_line library = record_line (codes "library") (length (recordings library)) library

-- the whole record
abbrev pub inventory_text : List ℕ → List ℕ
inventory_text library = entry_lines 0 (recordings library) ++ last_line library
