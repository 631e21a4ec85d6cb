-- What a writer does to a buffer of the caller's.
use Rattle.std.specs.Prelude.{◌≡◌, ℕ, ◌+◌, ◌<◌, ◌≤◌, List, length, Ok, Err, Result}
use Rattle.std.specs.Borrow.{MutBor}
use Rattle.refusals.specs.declared.Refusal.{Refusal}
use Rattle.refusals.specs.declared.Refusal.TheVariants.{OutputTooShort}
use Rattle.texts.specs.Buffers.{Wrote}
use Rattle.texts.specs.declared.writer.Writer.{Writer}

-- the bytes of the buffer, and how many of them are written
abbrev pub buffer_of : Writer → List ℕ
buffer_of w = w.out.now

abbrev pub place_of : Writer → ℕ
place_of w = w.place

-- w writes into the caller's buffer, of which nothing is written
pub record Fronts (out : MutBor (List ℕ)) (w : Writer) : Type 0 where
  pub buffer : w.out.ghost_name ≡ out.ghost_name
  pub bytes : buffer_of w ≡ out.now
  pub place : place_of w ≡ 0

-- the buffer has room for the text behind what is written
abbrev pub Room : Writer → List ℕ → Type 0
Room w text = place_of w + length text ≤ length (buffer_of w)

-- new is old with the text written behind what was written, in the same buffer
pub record Puts (old : Writer) (text : List ℕ) (new : Writer) : Type 0 where
  pub buffer : new.out.ghost_name ≡ old.out.ghost_name
  pub wrote : Wrote (buffer_of old) (place_of old) text (buffer_of new) (place_of new)

-- A text that fits is written. Where the buffer has no room for it, and only there, the answer is the refusal that says so,
-- and the writer and its buffer are as they were.
abbrev pub PutsIfRoom : Writer → List ℕ → Writer → Result (Unit {0}) Refusal → Type 0
PutsIfRoom old text new (Ok done) = Puts old text new
PutsIfRoom old text new (Err refusal) = (refusal ≡ OutputTooShort) × (length (buffer_of old) < place_of old + length text) × (new ≡ old)
