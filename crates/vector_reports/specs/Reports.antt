-- The report on a file: a line for each record, in order, and the line of their tally.
use Rattle.std.specs.Prelude.{◌≡◌, ℕ, ◌≤◌, List, [], ◌∷◌, ◌++◌, map, length, Some, None, Ok, Err, fold, Option, Result}
use Rattle.std.specs.List.{concat}
use Rattle.vector_files.specs.Checks.{Reports, NotChecked}
use Rattle.vector_files.specs.Vectors.{Means}
use Rattle.vector_files.specs.declared.vector.Fault.{Fault}
use Rattle.vector_files.specs.declared.vector.Vector.{Vector}
use Rattle.vector_files.specs.Entries.{NextEntry}
use Rattle.vector_files.specs.declared.entry.Entry.{Entry}
use Rattle.vector_files.specs.declared.check.Report as found
use Rattle.vector_files.specs.declared.record.Record.{Record}
use Rattle.vector_files.specs.declared.tally.Tally.{Tally}
use Rattle.vector_files.specs.Records.{Examined, none_counted, counted, record_line, tally_line}

-- what is said of a line that was read, where a message may have so many bytes: the name of its vector, and what was found.
-- A line that cannot be checked has no name.
abbrev pub Says : ℕ → Result Vector Fault → List ℕ → Result found.Report Fault → Type 0
Says room (Err f) name finding = (finding ≡ Err f) × (name ≡ [])
Says room (Ok v) name (Ok r) =
    (name ≡ v.name.now) × ((bytes : List ℕ) × Means v.message bytes × (length bytes ≤ room) × Reports v bytes r)
Says room (Ok v) name (Err f) = (name ≡ []) × NotChecked v room f

-- The record of the next entry of a text, and the buffer of its message before and after; at the end of the text there is none,
-- and the buffer stays.
abbrev pub NextRecord : ℕ → List ℕ → List ℕ → List ℕ → Option Record → ℕ → List ℕ → Type 0
NextRecord passed text old new None later left = NextEntry passed text None later left × (new ≡ old)
NextRecord passed text old new (Some r) later left = (e : Entry) × NextEntry passed text (Some e) later left × Examined e old new r

-- The records of the entries of a text, in order, where `passed` lines of the file came before it and a message may have
-- `room` bytes.
pub data Recorded (room : ℕ) : ℕ → List ℕ → List Record → Type 0 where
  ends : {passed later : ℕ} {text left : List ℕ} → NextEntry passed text None later left → Recorded room passed text []
  next : {passed later : ℕ} {text left : List ℕ} {e : Entry} {r : Record} {rs : List Record} → NextEntry passed text (Some e) later left
      → r.line ≡ e.line → Says room e.vector r.name.now r.finding → Recorded room later left rs → Recorded room passed text (r ∷ rs)

-- a tally with these records more
abbrev pub with_records : Tally → List Record → Tally
with_records t rs = fold counted t (map (λ (r : Record). r.finding) rs)

-- What is still to be reported, where `passed` lines of the file came before the text and t is the tally so far: a line
-- for each record of the text, and the line of the tally with them, which is the end.
pub record Report (room passed : ℕ) (text : List ℕ) (t : Tally) (lines : List ℕ) (end : Tally) : Type 0 where
  pub records : List Record
  pub recorded : Recorded room passed text records
  pub tallied : end ≡ with_records t records
  pub written : lines ≡ concat (map record_line records) ++ tally_line end

-- the report on a file, and its tally
abbrev pub FileReport : ℕ → List ℕ → List ℕ → Tally → Type 0
FileReport room file lines end = Report room 0 file none_counted lines end

-- no file has two reports, or two tallies
abbrev pub OneReport : Type 0
OneReport =
    (room : ℕ) (file a b : List ℕ) (s t : Tally) → FileReport room file a s → FileReport room file b t → (a ≡ b) × (s ≡ t)

-- a file has a report, and its tally has no vector that differs or is malformed
abbrev pub AllOk : ℕ → List ℕ → Type 0
AllOk room file = (lines : List ℕ) × (end : Tally) × FileReport room file lines end × (end.differ ≡ 0) × (end.malformed ≡ 0)
