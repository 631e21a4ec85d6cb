-- Texts in a buffer of the caller's.
use Rattle.std.specs.Prelude.{◌≡◌, ℕ, ◌+◌, ◌<◌, ◌≤◌, List, ◌++◌, length, take, drop, Some, None, Ok, Err, Option, Result}
use Rattle.refusals.specs.declared.Refusal.{Refusal}
use Rattle.refusals.specs.declared.Refusal.TheVariants.{OutputTooShort}

-- a buffer with a text in it from a place on
abbrev pub placed : List ℕ → ℕ → List ℕ → List ℕ
placed out at text = take at out ++ (text ++ drop (at + length text) out)

-- The text stands in the buffer from the place on, before and behind it the buffer is as it was, and end is the
-- place behind it.
pub record Wrote (old : List ℕ) (at : ℕ) (text new : List ℕ) (end : ℕ) : Type 0 where
  pub fits : at + length text ≤ length old
  pub place : end ≡ at + length text
  pub after : new ≡ placed old at text

-- A text that fits is written, and the answer is the place behind it. Where it does not fit, the answer is absent
-- and the buffer is as it was.
abbrev pub WrittenAt : List ℕ → ℕ → List ℕ → List ℕ → Option ℕ → Type 0
WrittenAt old at text new None = (length old < at + length text) × (new ≡ old)
WrittenAt old at text new (Some end) = Wrote old at text new end

-- A text that fits stands at the front of the buffer, whose rest stays, and the answer is its length. Where the buffer is
-- too short for it, and only there, the answer is the refusal that says so, and the buffer is as it was.
abbrev pub Written : List ℕ → List ℕ → List ℕ → Result ℕ Refusal → Type 0
Written text old new (Ok n) = (n ≡ length text) × (n ≤ length old) × (new ≡ text ++ drop n old)
Written text old new (Err refusal) = (refusal ≡ OutputTooShort) × (length old < length text) × (new ≡ old)
