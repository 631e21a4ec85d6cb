-- Lines of fields.
use Rattle.std.specs.Prelude.{ℕ, List, [], ◌∷◌, ◌++◌, map, decimal}
use Rattle.texts.specs.Hex.{hex}
use Rattle.texts.specs.declared.writer.Field.{Field}
use Rattle.texts.specs.declared.writer.Field.TheVariants.{Word, Number, Hex}

-- the fields with one tab between each two
abbrev pub tabbed : List (List ℕ) → List ℕ
tabbed [] = []
tabbed (field ∷ []) = field
tabbed (field ∷ (next ∷ more)) = field ++ (9 ∷ tabbed (next ∷ more))

-- those and a line feed
abbrev pub line : List (List ℕ) → List ℕ
line fields = tabbed fields ++ (10 ∷ [])

-- what stands behind the first field of a line: each other field with its tab, and the line feed
abbrev pub behind : List (List ℕ) → List ℕ
behind [] = 10 ∷ []
behind (field ∷ fields) = 9 ∷ (field ++ behind fields)

-- what is written of a field: a word as it is, a number in decimal, bytes in hex
abbrev pub field_text : Field → List ℕ
field_text (Word bytes) = bytes.now
field_text (Number n) = decimal n
field_text (Hex bytes) = hex bytes.now

-- the line that a list of fields is written as
abbrev pub line_of : List Field → List ℕ
line_of fields = line (map field_text fields)
