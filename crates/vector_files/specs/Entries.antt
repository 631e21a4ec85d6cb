-- The entries of a file: its lines that are no remarks.
use Rattle.std.specs.Prelude.{◌≡◌, ℕ, ◌+◌, List, [], ◌∷◌, Some, None, Err, Option, ◌≢◌}
use Rattle.texts.specs.Cuts.{FirstCut, Lacks}
use Rattle.vector_files.specs.declared.entry.Entry.{Entry}
use Rattle.vector_files.specs.declared.vector.Fault.TheVariants.{Unended}
use Rattle.vector_files.specs.Vectors.{ReadVector}

-- an empty line, and one that begins with `#`, is a remark
abbrev pub Remark : List ℕ → Type 0
Remark [] = Unit {0}
Remark (b ∷ bs) = b ≡ 35

-- The next entry of a text, and what is left after it. Beside the text, before and after, stands the number of lines
-- that were passed.
pub data NextEntry : ℕ → List ℕ → Option Entry → ℕ → List ℕ → Type 0 where
  -- the text is at its end
  ends : {passed : ℕ} → NextEntry passed [] None passed []
  -- a remark is passed over
  remark : {passed later : ℕ} {text line rest left : List ℕ} {r : Option Entry} → FirstCut 10 text line rest → Remark line
      → NextEntry (passed + 1) rest r later left → NextEntry passed text r later left
  -- any other line is an entry: a vector, or what is wrong with the line
  line : {passed : ℕ} {text line rest : List ℕ} {e : Entry} → FirstCut 10 text line rest → (Remark line → ⊥)
      → e.line ≡ passed + 1 → ReadVector line e.vector → NextEntry passed text (Some e) (passed + 1) rest
  -- a last line without a line feed is wrong, whatever it holds
  unended : {passed : ℕ} {text : List ℕ} {e : Entry} → Lacks 10 text → (text ≢ [])
      → e.line ≡ passed + 1 → e.vector ≡ Err Unended → NextEntry passed text (Some e) (passed + 1) []
