use Rattle.std.proofs.Common.{ℕ, ◌<◌, Bool, true, false, List, length, IsUtf8, Decides, MatchBool, Ok, Err, Result, MatchResult, refl, arith}
use Rattle.std.specs.Result.{IsOk}
use borrow.Author.Tests.{clash}
use Rattle.std.specs.List.{AllByRecursion, AllWithin, HoldsAt}
use Rattle.std.proofs.ByRecursion.{IsAscii-from_all, All-get_or, All-weaker}
use Rattle.std.proofs.lemmas.List.Elements.{All-from_all_within, recursion_from_All}
use Rattle.std.proofs.lemmas.Str.{IsUtf8-from_ascii}
use Rattle.vector_files.specs.Vectors.{Printable}

-- what a search for a byte that is not printable tells
pub decided : (s : List ℕ) (r : Bool) → MatchBool r (AllWithin Printable s 0 (length s)) ((k : ℕ) × (k < length s) × HoldsAt (λ b. Printable b → ⊥) s k)
    → Decides r (AllByRecursion Printable s)
decided s true all = ((λ _. recursion_from_All Printable s (All-from_all_within Printable s all)), (λ _. refl))
decided s false (k, l, out) = ((λ e. absurd (clash e)), (λ all. absurd (out 0 (All-get_or Printable s k 0 l all))))

text : (s : List ℕ) → AllByRecursion Printable s → IsUtf8 s
text s all = IsUtf8-from_ascii s (IsAscii-from_all s (All-weaker Printable (λ b. b < 128) (λ b p. omega (arith, p.high)) s all))

-- so that a printable name is read
pub read : {T E : Type 0} (s : List ℕ) (r : Result T E) (P : T → Type 0) (Q : E → Type 0) → MatchResult r P (λ e. ¬ (IsUtf8 s) × Q e)
    → AllByRecursion Printable s → IsOk r
read s (Ok x) P Q m all = refl
read s (Err e) P Q m all = absurd (m.0 (text s all))
