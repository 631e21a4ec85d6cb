-- What a tally has after any findings.
use Rattle.std.specs.Prelude.{◌≡◌, ℕ, ◌+◌, ◌-◌, ◌^◌, min, List, [], ◌∷◌, length, Ok, Err, fold, Result}
use Rattle.vector_files.specs.declared.check.Outcome.{Outcome}
use Rattle.vector_files.specs.declared.check.Outcome.TheVariants.{Agrees, Differs}
use Rattle.vector_files.specs.declared.check.Report.{Report}
use Rattle.vector_files.specs.declared.vector.Fault.{Fault}
use Rattle.vector_files.specs.Records.{none_counted, counted}

-- how many of the findings are of a kind
abbrev pub how_many : (Result Report Fault → ℕ) → List (Result Report Fault) → ℕ
how_many kind [] = 0
how_many kind (f ∷ fs) = kind f + how_many kind fs

abbrev pub agreeing : Outcome → ℕ
agreeing Agrees = 1
agreeing Differs = 0

abbrev pub differing : Outcome → ℕ
differing Agrees = 0
differing Differs = 1

abbrev pub is_agreeing : Result Report Fault → ℕ
is_agreeing (Ok r) = agreeing r.outcome
is_agreeing (Err f) = 0

abbrev pub is_different : Result Report Fault → ℕ
is_different (Ok r) = differing r.outcome
is_different (Err f) = 0

abbrev pub is_malformed : Result Report Fault → ℕ
is_malformed (Ok r) = 0
is_malformed (Err f) = 1

-- a number as far as 64 bits go
abbrev pub capped : ℕ → ℕ
capped n = min n (2 ^ 64 - 1)

-- however many findings are counted, one after the other, the tally has how many there are, and how many of each kind
abbrev pub TallyLaw : Type 0
TallyLaw =
    (fs : List (Result Report Fault)) → fold counted none_counted fs
    ≡ record { vectors = capped (length fs); ok = capped (how_many is_agreeing fs); differ = capped (how_many is_different fs); malformed = capped (how_many is_malformed fs) }
