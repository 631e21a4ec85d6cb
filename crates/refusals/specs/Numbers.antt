-- The numbers of the refusals, one line a case.
use Rattle.std.specs.Prelude.{◌≡◌, ◌≢◌, ℕ, ◌≤◌, ◌⊎◌, Result, MatchResult}
use Rattle.refusals.specs.declared.Refusal.{Refusal}
use Rattle.refusals.specs.declared.Refusal.TheVariants.{FieldSize, Dimension, Strength, ObjectCount, GroupCount, GroupsPerObject, MergedSize, WrongPhase, BankTooShort, ObjectTooLong, LibrarySize, PageTooShort, VerdictsTooShort, NoSuchObject, Unexplained, NotAVerdict, NotASheet, MalformedSetting, UnknownHash, MalformedDigest, LineCount, ProgramLimit, OutputTooShort}
use Rattle.refusals.specs.declared.UnknownNumber.{UnknownNumber}

abbrev pub number_of : Refusal → ℕ
number_of FieldSize = 11
number_of Dimension = 12
number_of Strength = 13
number_of ObjectCount = 14
number_of GroupCount = 15
number_of GroupsPerObject = 16
number_of MergedSize = 17
number_of WrongPhase = 21
number_of BankTooShort = 22
number_of ObjectTooLong = 23
number_of LibrarySize = 24
number_of PageTooShort = 25
number_of VerdictsTooShort = 26
number_of NoSuchObject = 27
number_of Unexplained = 28
number_of NotAVerdict = 29
number_of NotASheet = 31
number_of MalformedSetting = 32
number_of UnknownHash = 33
number_of MalformedDigest = 34
number_of LineCount = 35
number_of ProgramLimit = 36
number_of OutputTooShort = 37

-- the numbers that are taken: of the schemes, of the sessions, of the texts
abbrev pub Listed : ℕ → Type 0
Listed n = ((11 ≤ n) × (n ≤ 17)) ⊎ (((21 ≤ n) × (n ≤ 29)) ⊎ ((31 ≤ n) × (n ≤ 37)))

-- the result is the case with this number, which is then taken, or it holds the number, which no case has
abbrev pub Decodes : ℕ → Result Refusal UnknownNumber → Type 0
Decodes number r = MatchResult r
    (λ case. (number_of case ≡ number) × Listed number)
    (λ unknown. (unknown.0 ≡ number) × (((case : Refusal) → number_of case ≢ number) × (Listed number → ⊥)))
