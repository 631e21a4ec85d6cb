-- What is said of the entries of a file, and how it is written.
use Rattle.std.specs.Prelude.{◌≡◌, ℕ, ◌+◌, ◌-◌, ◌^◌, min, List, [], ◌∷◌, Ok, Err, codes, decimal, Result}
use Rattle.texts.specs.Hex.{hex}
use Rattle.texts.specs.Lines.{line}
use Rattle.hashes.specs.Digests.{digest_bytes}
use Rattle.vector_files.specs.declared.check.Outcome.{Outcome}
use Rattle.vector_files.specs.declared.check.Outcome.TheVariants.{Agrees, Differs}
use Rattle.vector_files.specs.declared.check.Report.{Report}
use Rattle.vector_files.specs.declared.entry.Entry.{Entry}
use Rattle.vector_files.specs.declared.record.Record.{Record}
use Rattle.vector_files.specs.declared.tally.Tally.{Tally}
use Rattle.vector_files.specs.declared.vector.Fault.{Fault}
use Rattle.vector_files.specs.declared.vector.Fault.TheVariants as fault
use Rattle.vector_files.specs.declared.vector.Vector.{Vector}
use Rattle.vector_files.specs.Checks.{CheckedVector}

-- what is found of an entry, under which name, and the buffer after it
abbrev pub Found : Result Vector Fault → List ℕ → List ℕ → List ℕ → Result Report Fault → Type 0
Found (Err f) old new name finding = (finding ≡ Err f) × (name ≡ []) × (new ≡ old)
Found (Ok v) old new name (Ok r) = (name ≡ v.name.now) × CheckedVector v old new (Ok r)
Found (Ok v) old new name (Err f) = (name ≡ []) × CheckedVector v old new (Err f)

-- the record of an entry
pub record Examined (e : Entry) (old new : List ℕ) (r : Record) : Type 0 where
  pub line : r.line ≡ e.line
  pub found : Found e.vector old new r.name.now r.finding

abbrev pub none_counted : Tally
none_counted = record { vectors = 0; ok = 0; differ = 0; malformed = 0 }

-- one more, as far as 64 bits go
abbrev pub one_more : ℕ → ℕ
one_more n = min (n + 1) (2 ^ 64 - 1)

-- a tally with one record more
abbrev pub counted_outcome : Tally → Outcome → Tally
counted_outcome t Agrees = record { vectors = one_more t.vectors; ok = one_more t.ok; differ = t.differ; malformed = t.malformed }
counted_outcome t Differs = record { vectors = one_more t.vectors; ok = t.ok; differ = one_more t.differ; malformed = t.malformed }

abbrev pub counted : Tally → Result Report Fault → Tally
counted t (Ok r) = counted_outcome t r.outcome
counted t (Err f) = record { vectors = one_more t.vectors; ok = t.ok; differ = t.differ; malformed = one_more t.malformed }

-- the words
abbrev pub word_of_outcome : Outcome → List ℕ
word_of_outcome Agrees = codes "ok"
word_of_outcome Differs = codes "differs"

abbrev pub words_of_fault : Fault → List ℕ
words_of_fault fault.Unended = codes "no line feed at its end"
words_of_fault fault.FieldCount = codes "not five fields"
words_of_fault fault.Name = codes "no name"
words_of_fault fault.Hash = codes "unknown hash"
words_of_fault fault.Form = codes "unknown form"
words_of_fault fault.Message = codes "message not of its form"
words_of_fault fault.Digest = codes "no digest of its hash"
words_of_fault fault.TooLong = codes "message too long"

-- the line of a checked vector: its name, the length of its message, the digest found in hex, and the outcome
abbrev pub checked_line : List ℕ → Report → List ℕ
checked_line name r =
    line (name ∷ (decimal r.length ∷ (hex (digest_bytes r.digest) ∷ (word_of_outcome r.outcome ∷ []))))

-- the line of a malformed line: its number, and what is wrong
abbrev pub malformed_line : ℕ → Fault → List ℕ
malformed_line number f = line (codes "line" ∷ (decimal number ∷ (codes "malformed" ∷ (words_of_fault f ∷ []))))

-- the line of a record
abbrev pub finding_line : ℕ → List ℕ → Result Report Fault → List ℕ
finding_line number name (Ok r) = checked_line name r
finding_line number name (Err f) = malformed_line number f

abbrev pub record_line : Record → List ℕ
record_line r = finding_line r.line r.name.now r.finding

-- the line of a tally: each count behind its word
abbrev pub tally_line : Tally → List ℕ
tally_line t =
    line
    (codes "vectors"
    ∷ (decimal t.vectors
    ∷ (codes "ok"
    ∷ (decimal t.ok
    ∷ (codes "differ"
    ∷ (decimal t.differ
    ∷ (codes "malformed"
    ∷ (decimal t.malformed ∷ []))))))))
