-- Lines of fields, a field at a time.
use Rattle.std.proofs.Common.{◌≡◌, ℕ, ◌+◌, ◌-◌, ◌/◌, ◌%◌, ◌<◌, ◌≤◌, List, [], ◌∷◌, ◌++◌, map, length, get_or, take, drop, sym, refl, ap, ◌∙◌, append_assoc, arith, length-append}
use Rattle.std.specs.Char.{digit_char}
use Rattle.std.specs.List.{AllByRecursion}
use Rattle.std.proofs.lemmas.List.{drop_more, drop_all, take_all}
use Rattle.texts.specs.Hex.{hex}
use Rattle.texts.specs.Lines.{tabbed, line, behind, field_text, line_of}
use Rattle.texts.specs.declared.writer.Field.{Field}
use Rattle.texts.specs.declared.writer.Field.TheVariants.{Word}

pub hex_next : (bs : List ℕ) (i : ℕ) → i < length bs → hex (drop i bs) ≡ (digit_char (get_or bs i 0 / 16) ∷ (digit_char (get_or bs i 0 % 16) ∷ [])) ++ hex (drop (i + 1) bs)
hex_next bs i h = ap hex (drop_more bs i 0 h)

pub hex_end : (bs : List ℕ) (i : ℕ) → length bs ≤ i → hex (drop i bs) ≡ []
hex_end bs i h = ap hex (drop_all i bs h)

pub line_first : (field : List ℕ) (fields : List (List ℕ)) → line (field ∷ fields) ≡ field ++ behind fields
line_first field [] = refl
line_first field (next ∷ more) =
    append_assoc field (9 ∷ tabbed (next ∷ more)) (10 ∷ []) ∙ ap (λ (text : List ℕ). field ++ (9 ∷ text)) (line_first next more)

-- how long fields are, each with the one byte behind it
abbrev pub size : List (List ℕ) → ℕ
size [] = 0
size (field ∷ fields) = length field + 1 + size fields

length-behind : (fields : List (List ℕ)) → length (behind fields) ≡ size fields + 1
length-behind [] = refl
length-behind (field ∷ fields) = omega (arith, length-behind fields, length-append field (behind fields))

pub length-line : (fields : List (List ℕ)) → 0 < length fields → length (line fields) ≡ size fields
length-line [] h = absurd (omega arith)
length-line (field ∷ fields) h = ap length (line_first field fields) ∙ omega (arith, length-append field (behind fields), length-behind fields)

-- what a list of fields is read at past its end
abbrev pub blank : Field
blank = Word record { ref_ptr = (0, 0); now = [] }

pub length-line_of : (fields : List Field) → (length fields ≡ 0 → ⊥) → length (line_of fields) ≡ size (map field_text fields)
length-line_of [] some = absurd (some refl)
length-line_of (field ∷ fields) some = length-line (map field_text (field ∷ fields)) (omega arith)

pub behind_next : (fields : List Field) (i : ℕ) → i < length fields
    → behind (map field_text (drop i fields)) ≡ (9 ∷ field_text (get_or fields i blank)) ++ behind (map field_text (drop (i + 1) fields))
behind_next fields i h = ap (λ (left : List Field). behind (map field_text left)) (drop_more fields i blank h)

pub behind_end : (fields : List Field) (i : ℕ) → length fields ≤ i → behind (map field_text (drop i fields)) ≡ 10 ∷ []
behind_end fields i h = ap (λ (left : List Field). behind (map field_text left)) (drop_all i fields h)

pub line_parts : (fields : List Field) → 1 ≤ length fields
    → line_of fields ≡ field_text (get_or fields 0 blank) ++ behind (map field_text (take (length fields - 1) (drop 1 fields)))
line_parts [] h = absurd (omega arith)
line_parts (field ∷ fields) h =
    let all : take (length (field ∷ fields) - 1) fields ≡ fields = take_all _ fields (omega arith) in
    line_first (field_text field) (map field_text fields) ∙ ap (λ (more : List Field). field_text field ++ behind (map field_text more)) (sym all)

-- no byte of a field is a tab or a line feed
abbrev pub Unbroken : List ℕ → Type 0
Unbroken field = AllByRecursion (λ b. 10 < b) field

-- a text that begins with a tab or a line feed
abbrev Stop : List ℕ → Type 0
Stop text = (0 < length text) × (get_or text 0 0 ≤ 10)

stop_behind : (fields : List (List ℕ)) (rest : List ℕ) → Stop (behind fields ++ rest)
stop_behind [] rest = (omega arith, omega arith)
stop_behind (field ∷ fields) rest = (omega arith, omega arith)

-- a field ends where the first tab or line feed stands
first_field : (f g r s : List ℕ) → Stop r → Stop s → Unbroken f → Unbroken g → f ++ r ≡ g ++ s → (f ≡ g) × (r ≡ s)
first_field [] [] r s k l p q e = (refl, e)
first_field [] (y ∷ g) r s k l p q e = absurd (omega (arith, k.1, q.0, ap (λ (t : List ℕ). get_or t 0 0) e))
first_field (x ∷ f) [] r s k l p q e = absurd (omega (arith, l.1, p.0, ap (λ (t : List ℕ). get_or t 0 0) e))
first_field (x ∷ f) (y ∷ g) r s k l p q e =
    let h : x ≡ y = cc in
    let t : f ++ r ≡ g ++ s = cc in
    let m = first_field f g r s k l p.1 q.1 t in
    ((let d = m.0 in cc), m.1)

behind_told : (fs gs : List (List ℕ)) (r s : List ℕ) → AllByRecursion Unbroken fs → AllByRecursion Unbroken gs → behind fs ++ r ≡ behind gs ++ s → (fs ≡ gs) × (r ≡ s)
behind_told [] [] r s p q e = (refl, (cc))
behind_told [] (g ∷ gs) r s p q e = absurd (omega (arith, ap (λ (t : List ℕ). get_or t 0 0) e))
behind_told (f ∷ fs) [] r s p q e = absurd (omega (arith, ap (λ (t : List ℕ). get_or t 0 0) e))
behind_told (f ∷ fs) (g ∷ gs) r s p q e =
    let t : (f ++ behind fs) ++ r ≡ (g ++ behind gs) ++ s = cc in
    let m = first_field f g (behind fs ++ r) (behind gs ++ s) (stop_behind fs r) (stop_behind gs s) p.0 q.0 (sym (append_assoc f (behind fs) r) ∙ t ∙ append_assoc g (behind gs) s) in
    let n = behind_told fs gs r s p.1 q.1 m.1 in
    ((let a = m.0 in let b = n.0 in cc), n.1)

-- a line tells its fields, whatever follows it
pub line_told : (f g : List ℕ) (fs gs : List (List ℕ)) (r s : List ℕ) → AllByRecursion Unbroken (f ∷ fs) → AllByRecursion Unbroken (g ∷ gs) → line (f ∷ fs) ++ r ≡ line (g ∷ gs) ++ s
    → ((f ∷ fs) ≡ (g ∷ gs)) × (r ≡ s)
line_told f g fs gs r s p q e =
    let parts = λ (h : List ℕ) (hs : List (List ℕ)) (t : List ℕ). ap (λ (z : List ℕ). z ++ t) (line_first h hs) ∙ append_assoc h (behind hs) t in
    let m = first_field f g (behind fs ++ r) (behind gs ++ s) (stop_behind fs r) (stop_behind gs s) p.0 q.0 (sym (parts f fs r) ∙ e ∙ parts g gs s) in
    let n = behind_told fs gs r s p.1 q.1 m.1 in
    ((let a = m.0 in let b = n.0 in cc), n.1)
