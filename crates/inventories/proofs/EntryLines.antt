-- The lines of a record, one at a time, and their lengths.
use Rattle.std.proofs.Common.{◌≡◌, ℕ, ◌+◌, List, [], ◌∷◌, ◌++◌, length, Ok, Err, Result, decimal, sym, ap, ◌∙◌, subst, arith, rules, length-append}
use Rattle.texts.proofs.Hexes.{length-hex}
use Rattle.texts.proofs.Tabs.{length-line}
use Rattle.refusals.specs.declared.Refusal.{Refusal}
use Rattle.texts.proofs.Chains.{Writing, puts_same, writing_more}
use Rattle.texts.specs.Writers.{Puts, PutsIfRoom, Room}
use Rattle.texts.specs.declared.writer.Writer.{Writer}
use Rattle.std.specs.Result.{IsOk}
use Rattle.texts.specs.Hex.{hex}
use Rattle.texts.specs.Lines.{line}
use Rattle.hashes.specs.Fnv.{fnv1a}
use Rattle.sha256.specs.Message.{sha256, digest_of}
use Rattle.recordings.specs.Recordings.{recordings}
use Rattle.inventories.specs.Texts.{record_line, entry_lines, last_line, inventory_text}

length_fnv : (bytes : List ℕ) → length (hex (fnv1a bytes)) ≡ 16
length_fnv bytes = length-hex (fnv1a bytes)

length_sha : (bytes : List ℕ) → length (hex (sha256 bytes)) ≡ 64
unfolding sha256 digest_of
length_sha bytes = length-hex (sha256 bytes)

pub length-record_line : (name : List ℕ) (number : ℕ) (bytes : List ℕ) → length (record_line name number bytes) ≡ length name + length (decimal number) + 84
unfolding record_line
length-record_line name number bytes =
    length-line (name ∷ (decimal number ∷ (hex (fnv1a bytes) ∷ (hex (sha256 bytes) ∷ [])))) (omega arith)
    ∙ omega (arith, length_fnv bytes, length_sha bytes)

-- the line of a recording with its number
abbrev pub recording_line : ℕ → List ℕ → List ℕ
recording_line number recording = record_line (decimal number) (length recording) recording

-- the four fields of a line, as they are handed to a writer
pub four_fields : (name : List ℕ) (number : ℕ) (fnv sha bytes : List ℕ) → fnv ≡ fnv1a bytes → sha ≡ sha256 bytes
    → line (name ∷ (decimal number ∷ (hex fnv ∷ (hex sha ∷ [])))) ≡ record_line name number bytes
unfolding record_line
four_fields name number fnv sha bytes e f = λ i. line (name ∷ (decimal number ∷ (hex (e i) ∷ (hex (f i) ∷ []))))

-- a line that has room is written
pub line_put : {w v : Writer} {a : List ℕ} (b : List ℕ) (r : Result (Unit {0}) Refusal) → a ≡ b → PutsIfRoom w a v r → Room w b → IsOk r × Puts w b v
line_put {w} {v} {a} b (Ok done) e p room = (search rules, puts_same e p)
line_put {w} {v} {a} b (Err refusal) e p room = absurd (omega (arith, p.1, ap length e))

-- the lines from one on, where a recording stands in front
pub entries_more : (n : ℕ) {xs rest : List (List ℕ)} {recording : List ℕ} → xs ≡ recording ∷ rest → entry_lines n xs ≡ recording_line n recording ++ entry_lines (n + 1) rest
entries_more n e = ap (entry_lines n) e

pub length_entries_more : (n : ℕ) {xs rest : List (List ℕ)} {recording : List ℕ} → xs ≡ recording ∷ rest
    → length (entry_lines n xs) ≡ length (decimal n) + length (decimal (length recording)) + 84 + length (entry_lines (n + 1) rest)
length_entries_more n {xs} {rest} {recording} e =
    ap length (entries_more n e)
    ∙ length-append (recording_line n recording) (entry_lines (n + 1) rest)
    ∙ ap (λ (k : ℕ). k + length (entry_lines (n + 1) rest)) (length-record_line (decimal n) (length recording) recording)

-- the line of a recording, among those that are still to be written
pub entry_room : (w : Writer) {number count : ℕ} {xs rest : List (List ℕ)} {recording : List ℕ} → xs ≡ recording ∷ rest → number ≡ count
    → Room w (entry_lines count xs) → Room w (recording_line number recording)
entry_room w {number} {count} {xs} {rest} {recording} e n room =
    omega (arith, room, length_entries_more count e, length-record_line (decimal number) (length recording) recording, ap (λ (k : ℕ). length (decimal k)) n)

pub entry_written : {from w new : Writer} {whole : List ℕ} {number count next : ℕ} {xs rest : List (List ℕ)} {recording : List ℕ}
    → xs ≡ recording ∷ rest → number ≡ count → next ≡ count + 1 → Writing from whole w (entry_lines count xs)
    → Puts w (recording_line number recording) new → Writing from whole new (entry_lines next rest)
entry_written {from} {w} {new} {whole} {number} {count} {next} {xs} {rest} {recording} e n m v p =
    subst (λ (k : ℕ). Writing from whole new (entry_lines k rest)) (sym m)
    (writing_more _ _ (entries_more count e) v (puts_same (ap (λ (k : ℕ). recording_line k recording) n) p))

pub length-inventory_text : (library : List ℕ) → length (inventory_text library) ≡ length (entry_lines 0 (recordings library)) + length (last_line library)
length-inventory_text library = length-append (entry_lines 0 (recordings library)) (last_line library)
