-- What a test vector says, and how it is written.
use Rattle.std.specs.Prelude.{◌≡◌, ℕ, ◌^◌, ◌<◌, ◌≤◌, List, [], ◌∷◌, ◌++◌, length, replicate, Ok, Err, codes, decimal, Result, ◌≢◌, slice_index_or}
use Rattle.std.specs.List.{AllByRecursion}
use Rattle.texts.specs.Cuts.{Lacks}
use Rattle.texts.specs.Hex.{hex, HexOf, IsHex}
use Rattle.texts.specs.Lines.{tabbed}
use Rattle.hashes.specs.Fnv.{fnv1a}
use Rattle.sha256.specs.Message.{sha256}
use Rattle.vector_files.specs.declared.vector.HashName.{HashName}
use Rattle.vector_files.specs.declared.vector.HashName.TheVariants.{Fnv1a64, Sha256}
use Rattle.vector_files.specs.declared.vector.Message.{Message}
use Rattle.vector_files.specs.declared.vector.Message.TheVariants.{Text, Hex, Repeat}
use Rattle.vector_files.specs.declared.vector.Vector.{Vector}
use Rattle.vector_files.specs.declared.vector.Fault.{Fault}
use Rattle.vector_files.specs.declared.vector.Fault.TheVariants as fault
use Rattle.vector_files.specs.Tabs.{Five}

-- the word for a hash
abbrev pub hash_word : HashName → List ℕ
hash_word Fnv1a64 = codes "fnv1a64"
hash_word Sha256 = codes "sha256"

-- how many bytes its digests have
abbrev pub hash_width : HashName → ℕ
hash_width Fnv1a64 = 8
hash_width Sha256 = 32

-- the digest of a message
abbrev pub hashed : HashName → List ℕ → List ℕ
hashed Fnv1a64 bytes = fnv1a bytes
hashed Sha256 bytes = sha256 bytes

-- the word for the form of a message
abbrev pub form_word : Message → List ℕ
form_word (Text s) = codes "text"
form_word (Hex s) = codes "hex"
form_word (Repeat byte count) = codes "repeat"

-- a byte in hex, a star, and how many times the byte comes
abbrev pub repeat_field : ℕ → ℕ → List ℕ
repeat_field byte count = hex (byte ∷ []) ++ (42 ∷ decimal count)

-- the field of a message
abbrev pub message_field : Message → List ℕ
message_field (Text s) = s.now
message_field (Hex s) = s.now
message_field (Repeat byte count) = repeat_field byte count

-- a message that a field can hold: text without a tab, pairs of hex digits, a byte and a count of at most seven digits
abbrev pub GoodMessage : Message → Type 0
GoodMessage (Text s) = Lacks 9 s.now
GoodMessage (Hex s) = IsHex s.now
GoodMessage (Repeat byte count) = (byte < 256) × (count < 10 ^ 7)

-- a field says that a byte comes so many times
pub record Repeats (field : List ℕ) (byte count : ℕ) : Type 0 where
  pub is_byte : byte < 256
  pub few : count < 10 ^ 7
  pub written : field ≡ repeat_field byte count

-- the bytes that a message stands for
abbrev pub Means : Message → List ℕ → Type 0
Means (Text s) bytes = bytes ≡ s.now
Means (Hex s) bytes = HexOf s.now bytes
Means (Repeat byte count) bytes = bytes ≡ replicate count byte

-- a printable character of ASCII, from the blank to the tilde
pub record Printable (b : ℕ) : Type 0 where
  pub low : 32 ≤ b
  pub high : b ≤ 126

-- a name: one printable character or more, the first of them no `#`, which begins a remark
pub record GoodName (s : List ℕ) : Type 0 where
  pub some : 0 < length s
  pub no_remark : slice_index_or s 0 0 ≡ 35 → ⊥
  pub printable : AllByRecursion Printable s

-- a field is the hex text of a digest of the hash
pub record DigestField (h : HashName) (s bytes : List ℕ) : Type 0 where
  pub hex : HexOf s bytes
  pub width : length bytes ≡ hash_width h

-- the answer is right, or there is no right one and the answer is this fault
abbrev pub OrFault : {A : Type 0} → Fault → Type 0 → (A → Type 0) → Result A Fault → Type 0
OrFault fault none right (Ok x) = right x
OrFault fault none right (Err f) = (f ≡ fault) × none

-- the hash that a word names, or that it names none
abbrev pub NamesHash : List ℕ → Result HashName Fault → Type 0
NamesHash word r = OrFault fault.Hash ((h : HashName) → word ≢ hash_word h) (λ h. word ≡ hash_word h) r

-- a vector that a line can hold
pub record GoodVector (v : Vector) : Type 0 where
  pub name : GoodName v.name.now
  pub message : GoodMessage v.message
  pub digest : (bytes : List ℕ) × DigestField v.hash v.expected.now bytes

-- the line of a vector: its name, its hash, the form of its message, the message and the digest, parted by tabs
abbrev pub vector_line : Vector → List ℕ
vector_line v =
    tabbed
    (v.name.now
    ∷ (hash_word v.hash
    ∷ (form_word v.message
    ∷ (message_field v.message
    ∷ (v.expected.now ∷ [])))))

-- two vectors that say the same
pub record SameVector (v w : Vector) : Type 0 where
  pub name : v.name.now ≡ w.name.now
  pub hash : v.hash ≡ w.hash
  pub form : form_word v.message ≡ form_word w.message
  pub message : message_field v.message ≡ message_field w.message
  pub digest : v.expected.now ≡ w.expected.now

-- no message has this form, or one does and no good one has this field too
pub data WrongMessage (form field : List ℕ) : Fault → Type 0 where
  no_form : ((m : Message) → form ≢ form_word m) → WrongMessage form field fault.Form
  no_message : (m : Message) → form ≡ form_word m
      → ((m : Message) → GoodMessage m → form ≡ form_word m → field ≢ message_field m) → WrongMessage form field fault.Message

-- What the fields of the form and of the message say together: a message, or which of the two is wrong.
abbrev pub ReadMessage : List ℕ → List ℕ → Result Message Fault → Type 0
ReadMessage form field (Ok m) = GoodMessage m × (form ≡ form_word m) × (field ≡ message_field m)
ReadMessage form field (Err f) = WrongMessage form field f

-- The first of five fields that is wrong: each case has the fields before it right.
pub data RefusedFields (a b c d e : List ℕ) : Fault → Type 0 where
  name : (GoodName a → ⊥) → RefusedFields a b c d e fault.Name
  hash : GoodName a → ((h : HashName) → b ≢ hash_word h) → RefusedFields a b c d e fault.Hash
  message : GoodName a → (h : HashName) → b ≡ hash_word h → {f : Fault} → WrongMessage c d f → RefusedFields a b c d e f
  digest : GoodName a → (h : HashName) → b ≡ hash_word h → (m : Message) → GoodMessage m → c ≡ form_word m → d ≡ message_field m
      → ((bytes : List ℕ) → DigestField h e bytes → ⊥) → RefusedFields a b c d e fault.Digest

-- the first thing that is wrong with a line
pub data Refused (line : List ℕ) : Fault → Type 0 where
  field_count : ((a b c d e : List ℕ) → Five line a b c d e → ⊥) → Refused line fault.FieldCount
  fields : {a b c d e : List ℕ} → Five line a b c d e → {f : Fault} → RefusedFields a b c d e f → Refused line f

-- what a line says: a vector, or the first thing wrong
abbrev pub ReadVector : List ℕ → Result Vector Fault → Type 0
ReadVector line (Ok v) = GoodVector v × (line ≡ vector_line v)
ReadVector line (Err f) = Refused line f
