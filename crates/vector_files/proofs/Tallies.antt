-- Findings counted one after the other.
use Rattle.std.proofs.Common.{◌≡◌, ℕ, suc, ◌+◌, ◌-◌, ◌^◌, ◌≤◌, List, [], ◌∷◌, length, fold, Ok, Err, Result, ◌∙◌, arith}
use Rattle.vector_files.specs.declared.check.Outcome.{Outcome}
use Rattle.vector_files.specs.declared.check.Outcome.TheVariants.{Agrees, Differs}
use Rattle.vector_files.specs.declared.check.Report.{Report}
use Rattle.vector_files.specs.declared.vector.Fault.{Fault}
use Rattle.vector_files.specs.declared.tally.Tally.{Tally}
use Rattle.vector_files.specs.Records.{one_more, none_counted, counted, counted_outcome}
use Rattle.vector_files.specs.Tallies.{how_many, agreeing, differing, is_agreeing, is_different, is_malformed, capped, TallyLaw}

abbrev four : ℕ → ℕ → ℕ → ℕ → Tally
four a b c d = record { vectors = a; ok = b; differ = c; malformed = d }

-- the tally after these findings
abbrev then : Tally → List (Result Report Fault) → Tally
then t fs = four (capped (t.vectors + length fs)) (capped (t.ok + how_many is_agreeing fs)) (capped (t.differ + how_many is_different fs)) (capped (t.malformed + how_many is_malformed fs))

record Small (t : Tally) : Type 0 where
  vectors : t.vectors ≤ 2 ^ 64 - 1
  ok : t.ok ≤ 2 ^ 64 - 1
  differ : t.differ ≤ 2 ^ 64 - 1
  malformed : t.malformed ≤ 2 ^ 64 - 1

stays : (x : ℕ) → x ≤ 2 ^ 64 - 1 → x ≡ capped (x + 0)
stays x h = omega arith

-- one more, and n more after it
counts : (x n : ℕ) → capped (one_more x + n) ≡ capped (x + (1 + n))
counts x n = omega arith

passes : (x n : ℕ) → capped (x + n) ≡ capped (x + (0 + n))
passes x n = omega arith

numbers : (x n : ℕ) → capped (one_more x + n) ≡ capped (x + suc n)
numbers x n = omega arith

-- what holds after any findings, holds after a finding and those
module _ (fs : List (Result Report Fault)) (rest : (t : Tally) → Small t → fold counted t fs ≡ then t fs) (t : Tally) (s : Small t) where
  outcome : (o : Outcome)
      → fold counted (counted_outcome t o) fs
      ≡ four (capped (t.vectors + suc (length fs))) (capped (t.ok + (agreeing o + how_many is_agreeing fs))) (capped (t.differ + (differing o + how_many is_different fs))) (capped (t.malformed + (0 + how_many is_malformed fs)))
  outcome Agrees =
      rest (counted_outcome t Agrees) (record { vectors = omega arith; ok = omega arith; differ = s.differ; malformed = s.malformed })
      ∙ (λ i. four (numbers t.vectors (length fs) i) (counts t.ok (how_many is_agreeing fs) i) (passes t.differ (how_many is_different fs) i) (passes t.malformed (how_many is_malformed fs) i))
  outcome Differs =
      rest (counted_outcome t Differs) (record { vectors = omega arith; ok = s.ok; differ = omega arith; malformed = s.malformed })
      ∙ (λ i. four (numbers t.vectors (length fs) i) (passes t.ok (how_many is_agreeing fs) i) (counts t.differ (how_many is_different fs) i) (passes t.malformed (how_many is_malformed fs) i))

  finding : (f : Result Report Fault) → fold counted (counted t f) fs ≡ then t (f ∷ fs)
  finding (Ok r) = outcome r.outcome
  finding (Err k) =
      rest (counted t (Err k)) (record { vectors = omega arith; ok = s.ok; differ = s.differ; malformed = omega arith })
      ∙ (λ i. four (numbers t.vectors (length fs) i) (passes t.ok (how_many is_agreeing fs) i) (passes t.differ (how_many is_different fs) i) (counts t.malformed (how_many is_malformed fs) i))

counting : (fs : List (Result Report Fault)) (t : Tally) → Small t → fold counted t fs ≡ then t fs
counting [] t s = λ i. four (stays t.vectors s.vectors i) (stays t.ok s.ok i) (stays t.differ s.differ i) (stays t.malformed s.malformed i)
counting (f ∷ fs) t s = finding fs (counting fs) t s f

none_small : Small none_counted
none_small = record { vectors = omega arith; ok = omega arith; differ = omega arith; malformed = omega arith }

from_none : (n : ℕ) → capped (0 + n) ≡ capped n
from_none n = omega arith

pub tally_law : TallyLaw
tally_law fs =
    counting fs none_counted none_small
    ∙ (λ i. four (from_none (length fs) i) (from_none (how_many is_agreeing fs) i) (from_none (how_many is_different fs) i) (from_none (how_many is_malformed fs) i))
