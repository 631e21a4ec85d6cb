use Rattle.std.proofs.Common.{◌≡◌, ℕ, ◌-◌, ◌≤◌, List, [], ◌∷◌, length, get_or, take, drop, Some, codes, decimal, sym, ap, ◌∙◌, subst, arith, Bor}
use Rattle.std.proofs.lemmas.List.{take_all}
use Rattle.texts.specs.Hex.{HexOf, IsHex, Decoded}
use Rattle.texts.proofs.Hexes.{same_bytes}
use Rattle.texts.specs.Numbers.{Numeral}
use Rattle.texts.proofs.Numerals.{below, numeral_of}
use Rattle.vector_files.specs.declared.vector.HashName.{HashName}
use Rattle.vector_files.specs.declared.vector.Message.{Message}
use Rattle.vector_files.specs.declared.vector.Message.TheVariants.{Text, Hex, Repeat}
use Rattle.vector_files.specs.declared.vector.Fault.TheVariants as fault
use Rattle.vector_files.specs.Vectors.{hash_width, form_word, message_field, GoodMessage, Repeats, DigestField, WrongMessage, no_form, no_message}

-- what is left after three bytes
three : (s : List ℕ) → 3 ≤ length s → s ≡ get_or s 0 0 ∷ (get_or s 1 0 ∷ (get_or s 2 0 ∷ take (length s - 3) (drop 3 s)))
three (x ∷ (y ∷ (z ∷ s))) h =
    let k : length s ≤ length (x ∷ (y ∷ (z ∷ s))) - 3 = omega arith in
    ap (λ (t : List ℕ). x ∷ (y ∷ (z ∷ t))) (sym (take_all _ s k))
three (x ∷ (y ∷ [])) h = absurd (omega arith)
three (x ∷ []) h = absurd (omega arith)
three [] h = absurd (omega arith)

pub repeats : (s : List ℕ) (b n : ℕ) → 3 ≤ length s → get_or s 2 0 ≡ 42 → HexOf (get_or s 0 0 ∷ (get_or s 1 0 ∷ [])) (b ∷ [])
    → Numeral 7 n (take (length s - 3) (drop 3 s)) → Repeats s b n
repeats s b n l star h w =
    record { is_byte = h.bytes.0; few = below 7 n _ w; written = three s l ∙ cc (star, h.written, w.written) }

pub no_count : (s : List ℕ) → 3 ≤ length s → ((n : ℕ) → Numeral 7 n (take (length s - 3) (drop 3 s)) → ⊥)
    → (b n : ℕ) → Repeats s b n → ⊥
no_count s l none b n r =
    let t = sym (three s l) ∙ r.written in
    let d : decimal n ≡ take (length s - 3) (drop 3 s) = cc in
    none n (subst (Numeral 7 n) d (numeral_of 7 n (omega arith) r.few (omega (arith, r.few))))

-- the three forms
is_hex_only : (form field : List ℕ) → form ≡ codes "hex" → (IsHex field → ⊥)
    → (m : Message) → GoodMessage m → form ≡ form_word m → field ≡ message_field m → ⊥
is_hex_only form field e none (Text s) g w t = omega (arith, ap length (sym e ∙ w))
is_hex_only form field e none (Hex s) g w t = none (subst IsHex (sym t) g)
is_hex_only form field e none (Repeat b n) g w t = omega (arith, ap length (sym e ∙ w))

pub bad_hex : (form field : List ℕ) (r : Bor (List ℕ)) → form ≡ codes "hex" → (IsHex field → ⊥) → WrongMessage form field fault.Message
bad_hex form field r e none = no_message (Hex r) e (is_hex_only form field e none)

is_repeat_only : (form field : List ℕ) → form ≡ codes "repeat" → ((b n : ℕ) → Repeats field b n → ⊥)
    → (m : Message) → GoodMessage m → form ≡ form_word m → field ≡ message_field m → ⊥
is_repeat_only form field e none (Text s) g w t = omega (arith, ap length (sym e ∙ w))
is_repeat_only form field e none (Hex s) g w t = omega (arith, ap length (sym e ∙ w))
is_repeat_only form field e none (Repeat b n) g w t = none b n (record { is_byte = g.0; few = g.1; written = t })

pub bad_repeat : (form field : List ℕ) → form ≡ codes "repeat" → ((b n : ℕ) → Repeats field b n → ⊥)
    → WrongMessage form field fault.Message
bad_repeat form field e none = no_message (Repeat 0 0) e (is_repeat_only form field e none)

-- a form is told by its length and its bytes
pub bad_form : (form field : List ℕ) → (length form ≡ 4 → get_or form 0 0 ≡ 116 → get_or form 1 0 ≡ 101 → get_or form 2 0 ≡ 120 → get_or form 3 0 ≡ 116 → ⊥)
    → (length form ≡ 3 → get_or form 0 0 ≡ 104 → get_or form 1 0 ≡ 101 → get_or form 2 0 ≡ 120 → ⊥)
    → (length form ≡ 6 → get_or form 0 0 ≡ 114 → get_or form 1 0 ≡ 101 → get_or form 2 0 ≡ 112 → get_or form 3 0 ≡ 101 → get_or form 4 0 ≡ 97 → get_or form 5 0 ≡ 116 → ⊥) → WrongMessage form field fault.Form
bad_form form field t h r = no_form other
  where
    other : (m : Message) → form ≡ form_word m → ⊥
    other (Text s) e = t (ap length e) (ap (λ (s : List ℕ). get_or s 0 0) e) (ap (λ (s : List ℕ). get_or s 1 0) e) (ap (λ (s : List ℕ). get_or s 2 0) e) (ap (λ (s : List ℕ). get_or s 3 0) e)
    other (Hex s) e = h (ap length e) (ap (λ (s : List ℕ). get_or s 0 0) e) (ap (λ (s : List ℕ). get_or s 1 0) e) (ap (λ (s : List ℕ). get_or s 2 0) e)
    other (Repeat b n) e = r (ap length e) (ap (λ (s : List ℕ). get_or s 0 0) e) (ap (λ (s : List ℕ). get_or s 1 0) e) (ap (λ (s : List ℕ). get_or s 2 0) e) (ap (λ (s : List ℕ). get_or s 3 0) e) (ap (λ (s : List ℕ). get_or s 4 0) e) (ap (λ (s : List ℕ). get_or s 5 0) e)

-- digests
pub other_width : (h : HashName) (s old new : List ℕ) (count : ℕ) → Decoded s old new (Some count) → (count ≡ hash_width h → ⊥)
    → (bytes : List ℕ) → DigestField h s bytes → ⊥
other_width h s old new count (bs, g, l, _, _) ne bytes d =
    ne (sym l ∙ ap length (same_bytes s bs bytes g d.hex) ∙ d.width)
