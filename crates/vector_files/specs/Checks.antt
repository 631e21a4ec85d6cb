-- What the check of a vector answers.
use Rattle.std.specs.Prelude.{◌≡◌, ℕ, ◌<◌, ◌≤◌, List, ◌++◌, length, drop, Ok, Err, Result}
use Rattle.hashes.specs.Digests.{digest_bytes}
use Rattle.vector_files.specs.declared.check.Digests.{Digests}
use Rattle.vector_files.specs.declared.check.Outcome.{Outcome}
use Rattle.vector_files.specs.declared.check.Outcome.TheVariants.{Agrees, Differs}
use Rattle.vector_files.specs.declared.check.Report.{Report}
use Rattle.vector_files.specs.declared.vector.Fault.{Fault}
use Rattle.vector_files.specs.declared.vector.Fault.TheVariants as fault
use Rattle.vector_files.specs.declared.vector.Message.{Message}
use Rattle.vector_files.specs.declared.vector.Vector.{Vector}
use Rattle.vector_files.specs.Vectors.{Means, DigestField, hashed}

-- bytes at the front of a buffer; its rest stays
pub record InFront (bytes old new : List ℕ) : Type 0 where
  pub fits : length bytes ≤ length old
  pub after : new ≡ bytes ++ drop (length bytes) old

-- a message cannot be put into a buffer with that much room
pub data NotExpanded (m : Message) (room : ℕ) : Fault → Type 0 where
  no_bytes : ((bytes : List ℕ) → Means m bytes → ⊥) → NotExpanded m room fault.Message
  too_long : (bytes : List ℕ) → Means m bytes → room < length bytes → NotExpanded m room fault.TooLong

-- the bytes of a message stand at the front of the buffer, and are counted; or nothing is written
abbrev pub Expanded : Message → List ℕ → List ℕ → Result ℕ Fault → Type 0
Expanded m old new (Ok n) = (bytes : List ℕ) × Means m bytes × (length bytes ≡ n) × InFront bytes old new
Expanded m old new (Err f) = NotExpanded m (length old) f × (new ≡ old)

-- both digests of a string have these bytes
abbrev pub BothAre : List ℕ → Digests → Type 0
BothAre bytes d = (digest_bytes d.whole ≡ bytes) × (digest_bytes d.in_pieces ≡ bytes)

-- `Agrees` says that P holds, and `Differs` that it does not
abbrev pub Tells : Outcome → Type 0 → Type 0
Tells Agrees P = P
Tells Differs P = P → ⊥

-- what a report on a vector says of the bytes of its message; there is one only where the expected field is a digest of
-- the hash
pub record Reports (v : Vector) (bytes : List ℕ) (r : Report) : Type 0 where
  pub length : r.length ≡ length bytes
  pub digest : digest_bytes r.digest ≡ hashed v.hash bytes
  pub expected : (wanted : List ℕ) × DigestField v.hash v.expected.now wanted
  pub outcome : Tells r.outcome (DigestField v.hash v.expected.now (hashed v.hash bytes))

-- a vector cannot be checked: its expected field is no digest of its hash, or its message does not go into the buffer
pub data NotChecked (v : Vector) (room : ℕ) : Fault → Type 0 where
  no_digest : ((bytes : List ℕ) → DigestField v.hash v.expected.now bytes → ⊥) → NotChecked v room fault.Digest
  no_message : (bytes : List ℕ) → DigestField v.hash v.expected.now bytes
      → {f : Fault} → NotExpanded v.message room f → NotChecked v room f

-- the report on a vector, whose message is left in the buffer; or what is wrong, and nothing is written
abbrev pub CheckedVector : Vector → List ℕ → List ℕ → Result Report Fault → Type 0
CheckedVector v old new (Ok r) = (bytes : List ℕ) × Means v.message bytes × InFront bytes old new × Reports v bytes r
CheckedVector v old new (Err f) = NotChecked v (length old) f × (new ≡ old)

-- the same for a line that was read, where it may be that it holds no vector
abbrev pub CheckedReading : Result Vector Fault → List ℕ → List ℕ → Result Report Fault → Type 0
CheckedReading (Ok v) old new r = CheckedVector v old new r
CheckedReading (Err f) old new r = (r ≡ Err f) × (new ≡ old)
