-- What a reader hands out of a text, line by line.
use Rattle.std.specs.Prelude.{◌≡◌, ℕ, ◌+◌, List, [], Some, None, Option, ◌≢◌}
use Rattle.texts.specs.declared.reader.Line.{Line}
use Rattle.texts.specs.declared.reader.Reader.{Reader}
use Rattle.texts.specs.Cuts.{FirstCut, Lacks}

-- the text that is not yet handed out
abbrev pub left_of : Reader → List ℕ
left_of r = r.left.now

-- how many lines were handed out
abbrev pub passed_of : Reader → ℕ
passed_of r = r.passed

-- new is old with one line more handed out, which has the next number
pub record Passes (old new : Reader) (line : Line) : Type 0 where
  pub number : line.number ≡ passed_of old + 1
  pub passed : passed_of new ≡ passed_of old + 1

-- the next line is the text left up to its first line feed; without one, none comes and the reader is as it was
abbrev pub NextLine : Reader → Reader → Option Line → Type 0
NextLine old new None = Lacks 10 (left_of old) × (new ≡ old)
NextLine old new (Some line) = FirstCut 10 (left_of old) line.bytes.now (left_of new) × Passes old new line

-- all that is left comes as one line; at the end of the text none comes and the reader is as it was
abbrev pub RestLine : Reader → Reader → Option Line → Type 0
RestLine old new None = (left_of old ≡ []) × (new ≡ old)
RestLine old new (Some line) =
    (left_of old ≢ []) × (line.bytes.now ≡ left_of old) × (left_of new ≡ []) × Passes old new line
