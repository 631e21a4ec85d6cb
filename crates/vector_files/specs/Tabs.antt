-- The fields of a line, parted by tabs.
use Rattle.std.specs.Prelude.{◌≡◌, ℕ, List, [], ◌∷◌}
use Rattle.std.specs.List.{AllByRecursion}
use Rattle.texts.specs.Cuts.{Lacks}
use Rattle.texts.specs.Lines.{tabbed}

-- a line is these fields, and no field holds a tab
pub record Parted (line : List ℕ) (fields : List (List ℕ)) : Type 0 where
  pub whole : line ≡ tabbed fields
  pub no_tab : AllByRecursion (Lacks 9) fields

-- a line is these five fields
abbrev pub Five : List ℕ → List ℕ → List ℕ → List ℕ → List ℕ → List ℕ → Type 0
Five line a b c d e = Parted line (a ∷ (b ∷ (c ∷ (d ∷ (e ∷ [])))))
