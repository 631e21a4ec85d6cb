-- A text has one next entry: two answers say the same.
use Rattle.std.specs.Prelude.{◌≡◌, ℕ, List, Some, None, Ok, Err, Option, Result}
use Rattle.vector_files.specs.Entries.{NextEntry}
use Rattle.vector_files.specs.declared.entry.Entry.{Entry}
use Rattle.vector_files.specs.declared.vector.Fault.{Fault}
use Rattle.vector_files.specs.declared.vector.Message.{Message}
use Rattle.vector_files.specs.declared.vector.Message.TheVariants.{Text, Hex, Repeat}
use Rattle.vector_files.specs.declared.vector.Vector.{Vector}

-- two messages that say the same
abbrev pub SameMessage : Message → Message → Type 0
SameMessage (Text s) (Text t) = s.now ≡ t.now
SameMessage (Text s) (Hex t) = ⊥
SameMessage (Text s) (Repeat byte count) = ⊥
SameMessage (Hex s) (Text t) = ⊥
SameMessage (Hex s) (Hex t) = s.now ≡ t.now
SameMessage (Hex s) (Repeat byte count) = ⊥
SameMessage (Repeat byte count) (Text t) = ⊥
SameMessage (Repeat byte count) (Hex t) = ⊥
SameMessage (Repeat byte count) (Repeat other times) = (byte ≡ other) × (count ≡ times)

-- two vectors that say the same, also of their messages
pub record SameWhole (v w : Vector) : Type 0 where
  pub name : v.name.now ≡ w.name.now
  pub hash : v.hash ≡ w.hash
  pub message : SameMessage v.message w.message
  pub digest : v.expected.now ≡ w.expected.now

-- two readings of a line that say the same
abbrev pub SameReading : Result Vector Fault → Result Vector Fault → Type 0
SameReading (Ok v) (Ok w) = SameWhole v w
SameReading (Ok v) (Err k) = ⊥
SameReading (Err f) (Ok w) = ⊥
SameReading (Err f) (Err k) = f ≡ k

-- two answers that say the same: no entry, or the same of the same line
abbrev pub SameEntry : Option Entry → Option Entry → Type 0
SameEntry None None = Unit {0}
SameEntry None (Some e) = ⊥
SameEntry (Some d) None = ⊥
SameEntry (Some d) (Some e) = (d.line ≡ e.line) × SameReading d.vector e.vector

-- any next entry of the text is this one, and is followed by this
abbrev pub OnlyEntry : ℕ → List ℕ → Option Entry → ℕ → List ℕ → Type 0
OnlyEntry passed text r later left =
    (other : Option Entry) (passed' : ℕ) (left' : List ℕ) → NextEntry passed text other passed' left'
    → SameEntry r other × (later ≡ passed') × (left ≡ left')

-- a text has one next entry, and one rest after it
abbrev pub EntryLaw : Type 0
EntryLaw =
    (passed later : ℕ) (text left : List ℕ) (r : Option Entry) → NextEntry passed text r later left → OnlyEntry passed text r later left
