-- A text has one next entry.
use Rattle.std.proofs.Common.{◌≡◌, ℕ, ◌^◌, ◌<◌, List, [], ◌∷◌, length, decimal, ap, Ok, Err, Option, Result, sym, refl, ◌∙◌, subst, arith}
use Rattle.texts.specs.Cuts.{FirstCut}
use Rattle.texts.proofs.Pieces.{one_cut, no_cut}
use Rattle.vector_files.specs.declared.entry.Entry.{Entry}
use Rattle.vector_files.specs.declared.vector.Fault.{Fault}
use Rattle.vector_files.specs.declared.vector.Fault.TheVariants.{Unended}
use Rattle.vector_files.specs.declared.vector.Vector.{Vector}
use Rattle.vector_files.specs.declared.vector.Message.{Message}
use Rattle.vector_files.specs.declared.vector.Message.TheVariants.{Text, Hex, Repeat}
use Rattle.vector_files.specs.Vectors.{form_word, repeat_field, message_field, GoodMessage, GoodVector, SameVector, ReadVector}
use Rattle.texts.specs.Hex.{hex}
use Rattle.texts.proofs.Hexes.{one_hex}
use Rattle.std.proofs.lemmas.Fmt.{decimal_injective}
use Rattle.vector_files.specs.Entries.{Remark, NextEntry, ends, remark, line, unended}
use Rattle.vector_reports.specs.Entries.{SameMessage, SameWhole, SameReading, SameEntry, OnlyEntry, EntryLaw}
use Rattle.vector_files.proofs.Readings.{one_vector, refused_none, one_fault}

-- a byte and a count are told by their field
same_repeat : (b c m n : ℕ) → (b < 256) × (m < 10 ^ 7) → (c < 256) × (n < 10 ^ 7) → repeat_field b m ≡ repeat_field c n → (b ≡ c) × (m ≡ n)
same_repeat b c m n g h e =
    let digits : hex (b ∷ []) ≡ hex (c ∷ []) = cc in
    let bytes : b ∷ [] ≡ c ∷ [] = one_hex (b ∷ []) (c ∷ []) (g.0, tt) (h.0, tt) digits in
    let counts : decimal m ≡ decimal n = cc in
    (cc, decimal_injective m n (omega arith) (omega arith) counts)

-- a form and a field tell the message
same_message : (m n : Message) → GoodMessage m → GoodMessage n → form_word m ≡ form_word n → message_field m ≡ message_field n → SameMessage m n
same_message (Text s) (Text t) g h e f = f
same_message (Text s) (Hex t) g h e f = absurd (omega (arith, ap length e))
same_message (Text s) (Repeat c n) g h e f = absurd (omega (arith, ap length e))
same_message (Hex s) (Text t) g h e f = absurd (omega (arith, ap length e))
same_message (Hex s) (Hex t) g h e f = f
same_message (Hex s) (Repeat c n) g h e f = absurd (omega (arith, ap length e))
same_message (Repeat b m) (Text t) g h e f = absurd (omega (arith, ap length e))
same_message (Repeat b m) (Hex t) g h e f = absurd (omega (arith, ap length e))
same_message (Repeat b m) (Repeat c n) g h e f = same_repeat b c m n g h f

-- good vectors with the same fields are the same, also in their messages
same_whole : (v w : Vector) → GoodVector v → GoodVector w → SameVector v w → SameWhole v w
same_whole v w g h s = record {
  name = s.name;
  hash = s.hash;
  message = same_message v.message w.message g.message h.message s.form s.message;
  digest = s.digest;
}

one_reading : (s : List ℕ) (a b : Result Vector Fault) → ReadVector s a → ReadVector s b → SameReading a b
one_reading s (Ok v) (Ok w) (g, e) (h, f) = same_whole v w g h (one_vector s v w g e h f)
one_reading s (Ok v) (Err k) (g, e) r = refused_none s k r v g e
one_reading s (Err f) (Ok w) r (h, i) = refused_none s f r w h i
one_reading s (Err f) (Err k) r q = one_fault s f k r q

-- an empty text has no line
no_line : (part rest : List ℕ) → FirstCut 10 [] part rest → ⊥
no_line part rest c = no_cut 10 [] part rest (λ k h e. omega arith) c

-- the entry of a line without its line feed
unended_alike : (a b : Result Vector Fault) → a ≡ Err Unended → b ≡ Err Unended → SameReading a b
unended_alike a b e f = subst (λ (x : Result Vector Fault). SameReading x b) (sym e) (subst (λ (x : Result Vector Fault). SameReading (Err Unended) x) (sym f) refl)

-- what comes after a cut, at the other cut of the same text
moved : {text part rest part' rest' : List ℕ} {r : Option Entry} {n later : ℕ} {left : List ℕ} → FirstCut 10 text part rest → FirstCut 10 text part' rest'
    → NextEntry n rest' r later left → NextEntry n rest r later left
moved {text} {part} {rest} {part'} {rest'} {r} {n} {later} {left} c d e =
    subst (λ (s : List ℕ). NextEntry n s r later left) (sym (one_cut 10 text part part' rest rest' c d).1) e

line_of : {text part rest part' rest' : List ℕ} → FirstCut 10 text part rest → FirstCut 10 text part' rest' → part ≡ part'
line_of {text} {part} {rest} {part'} {rest'} c d = (one_cut 10 text part part' rest rest' c d).0

one_entry : {passed later later' : ℕ} {text left left' : List ℕ} {r s : Option Entry} → NextEntry passed text r later left → NextEntry passed text s later' left'
    → SameEntry r s × (later ≡ later') × (left ≡ left')
one_entry ends ends = (tt, refl, refl)
one_entry ends (remark c _ _) = absurd (no_line _ _ c)
one_entry ends (line c _ _ _) = absurd (no_line _ _ c)
one_entry ends (unended _ n _ _) = absurd (n refl)
one_entry (remark c _ _) ends = absurd (no_line _ _ c)
one_entry (remark c _ e) (remark d _ f) = one_entry e (moved c d f)
one_entry (remark c m _) (line d n _ _) = absurd (n (subst Remark (line_of c d) m))
one_entry (remark c _ _) (unended n _ _ _) = absurd (no_cut 10 _ _ _ n c)
one_entry (line c _ _ _) ends = absurd (no_line _ _ c)
one_entry (line c n _ _) (remark d m _) = absurd (n (subst Remark (line_of d c) m))
one_entry {text = text} (line {line = a} {rest = x} {e = e} c _ k r) (line {line = b} {rest = y} {e = f} d _ l q) =
    ((k ∙ sym l, one_reading a e.vector f.vector r (subst (λ (z : List ℕ). ReadVector z f.vector) (line_of d c) q)), refl, (one_cut 10 text a b x y c d).1)
one_entry (line c _ _ _) (unended n _ _ _) = absurd (no_cut 10 _ _ _ n c)
one_entry (unended _ n _ _) ends = absurd (n refl)
one_entry (unended n _ _ _) (remark d _ _) = absurd (no_cut 10 _ _ _ n d)
one_entry (unended n _ _ _) (line d _ _ _) = absurd (no_cut 10 _ _ _ n d)
one_entry (unended {e = e} _ _ k i) (unended {e = f} _ _ l j) = ((k ∙ sym l, unended_alike e.vector f.vector i j), refl, refl)

pub only_entry : {passed later : ℕ} {text left : List ℕ} {r : Option Entry} → NextEntry passed text r later left → OnlyEntry passed text r later left
only_entry e other passed' left' f = one_entry e f

pub entry_law : EntryLaw
entry_law passed later text left r e = only_entry e
