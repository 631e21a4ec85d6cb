use Rattle.std.proofs.Common.{◌≡◌, ℕ, zero, suc, ◌+◌, ◌*◌, ◌/◌, ◌%◌, ◌<◌, ◌≢◌, Bool, true, false, List, [], ◌∷◌, length, get_or, drop, is_some, Some, None, Option, MatchOption, Decides, sym, refl, ap, ◌∙◌, subst, arith, rules}
use Rattle.std.specs.Char.{digit_char}
use Rattle.std.proofs.lemmas.List.{drop_more}
use Rattle.texts.specs.Cuts.{Lacks}
use Rattle.std.specs.Bool.{MatchBool}
use Rattle.std.specs.List.{AllByRecursion, AllWithin, HoldsAt}
use borrow.Author.Tests.{clash}
use Rattle.std.proofs.lemmas.List.Elements.{All-from_all_within, recursion_from_All}
use Rattle.std.specs.Simd.{first_chunks}
use Rattle.texts.specs.Hex.{hex, Bytes, HexOf, IsHex}

-- a digit is told by its character
same_digit : (d e : ℕ) → d < 16 → e < 16 → digit_char d ≡ digit_char e → d ≡ e
same_digit d e h k p = search rules

pub length-hex : (bs : List ℕ) → length (hex bs) ≡ 2 * length bs
length-hex [] = refl
length-hex (b ∷ bs) = omega (arith, length-hex bs)

pub length_of_hex : (s bs : List ℕ) → HexOf s bs → length s ≡ 2 * length bs
length_of_hex s bs h = ap length h.written ∙ length-hex bs

-- a hex text tells its bytes
pub one_hex : (bs cs : List ℕ) → Bytes bs → Bytes cs → hex bs ≡ hex cs → bs ≡ cs
one_hex [] [] g h e = refl
one_hex [] (y ∷ cs) g h e = absurd (omega (arith, ap length e))
one_hex (x ∷ bs) [] g h e = absurd (omega (arith, ap length e))
one_hex (x ∷ bs) (y ∷ cs) g h e =
    let a : digit_char (x / 16) ≡ digit_char (y / 16) = cc in
    let b : digit_char (x % 16) ≡ digit_char (y % 16) = cc in
    let r : hex bs ≡ hex cs = cc in
    let u = same_digit (x / 16) (y / 16) (omega (arith, g.0)) (omega (arith, h.0)) a in
    let v = same_digit (x % 16) (y % 16) (omega arith) (omega arith) b in
    let s : x ≡ y = omega arith in
    let t = one_hex bs cs g.1 h.1 r in
    cc

pub same_bytes : (s bs cs : List ℕ) → HexOf s bs → HexOf s cs → bs ≡ cs
same_bytes s bs cs g h = one_hex bs cs g.bytes h.bytes (sym g.written ∙ h.written)

-- what the pair of digits p writes
abbrev pub Writes : List ℕ → ℕ → Type 0
Writes p b = HexOf (get_or p 0 0 ∷ (get_or p 1 0 ∷ [])) (b ∷ [])

abbrev pub WritesOne : List ℕ → Type 0
WritesOne p = (b : ℕ) × Writes p b

abbrev pub WritesNone : List ℕ → Type 0
WritesNone p = (b : ℕ) → Writes p b → ⊥

-- a hex text is the pairs of its bytes
pair_of : (bs d : List ℕ) (i : ℕ) → i < length bs → Bytes bs → Writes (get_or (first_chunks 2 (length bs) (hex bs)) i d) (get_or bs i 0)
pair_of [] d i h g = absurd (omega arith)
pair_of (b ∷ bs) d zero h g = record { bytes = (g.0, tt); written = refl }
pair_of (b ∷ bs) d (suc i) h g = pair_of bs d i (omega arith) g.1

-- the pairs of the text s
pub record Pairs (s : List ℕ) (pairs : List (List ℕ)) : Type 0 where
  pub cut : pairs ≡ first_chunks 2 (length s / 2) s
  pub many : length pairs ≡ length s / 2

pub pair_at : (s bs d : List ℕ) (pairs : List (List ℕ)) (i : ℕ) → Pairs s pairs → i < length pairs → HexOf s bs → Writes (get_or pairs i d) (get_or bs i 0)
pair_at s bs d pairs i p h w =
    let n : length s / 2 ≡ length bs = omega (arith, length_of_hex s bs w) in
    rw (p.cut, n, w.written) (pair_of bs d i (omega (arith, p.many)) w.bytes)

-- so the pair that is read tells the next byte
pub next_byte : (s bs d : List ℕ) (pairs : List (List ℕ)) (i b : ℕ) → Pairs s pairs → i < length pairs → HexOf s bs → Writes (get_or pairs i d) b
    → drop i bs ≡ b ∷ drop (i + 1) bs
next_byte s bs d pairs i b p h w one =
    let e = same_bytes _ (b ∷ []) (get_or bs i 0 ∷ []) one (pair_at s bs d pairs i p h w) in
    drop_more bs i 0 (omega (arith, p.many, length_of_hex s bs w)) ∙ ap (λ (x : ℕ). x ∷ drop (i + 1) bs) (sym (cc))

-- a pair that writes a byte is decoded, to that byte
pub some_byte : (p : List ℕ) (b : ℕ) (r : Option ℕ) → MatchOption r (WritesNone p) (Writes p) → Writes p b → is_some r ≡ true
some_byte p b (Some x) m w = refl
some_byte p b None m w = absurd (m b w)

pub the_byte : (p : List ℕ) (b : ℕ) (r : Option ℕ) → MatchOption r (WritesNone p) (Writes p) → r ≡ Some b → Writes p b
the_byte p b r m e = subst (λ (o : Option ℕ). MatchOption o (WritesNone p) (Writes p)) e m

hex_of_pairs : (k : ℕ) (s : List ℕ) → length s ≡ k * 2 → AllByRecursion WritesOne (first_chunks 2 k s) → IsHex s
hex_of_pairs zero [] e a = ([], record { bytes = tt; written = refl })
hex_of_pairs zero (x ∷ s) e a = absurd (omega arith)
hex_of_pairs (suc k) [] e a = absurd (omega arith)
hex_of_pairs (suc k) (x ∷ []) e a = absurd (omega arith)
hex_of_pairs (suc k) (x ∷ (y ∷ s)) e a =
    let i = hex_of_pairs k s (omega arith) a.1 in
    (a.0.0 ∷ i.0, record { bytes = (a.0.1.bytes.0, i.1.bytes); written = cc (a.0.1.written, i.1.written) })

-- whether each pair writes a byte tells whether a text of pairs is hex
pub hex_told : (text : List ℕ) (pairs : List (List ℕ)) (r : Bool) → Pairs text pairs → length text % 2 ≡ 0
    → MatchBool r (AllWithin WritesOne pairs 0 (length pairs)) ((k : ℕ) × (k < length pairs) × HoldsAt WritesNone pairs k) → Decides r (IsHex text)
hex_told text pairs true p even all =
    let each = recursion_from_All WritesOne pairs (All-from_all_within WritesOne pairs all) in
    ((λ _. hex_of_pairs (length text / 2) text (omega arith) (subst (AllByRecursion WritesOne) p.cut each)), (λ _. refl))
hex_told text pairs false p even (k, h, none) = ((λ e. absurd (clash e)), (λ i. absurd (none [] _ (pair_at text i.0 [] pairs k p h i.1))))

pub odd_no : (text : List ℕ) → length text % 2 ≢ 0 → IsHex text → ⊥
odd_no text odd i = omega (arith, length_of_hex text i.0 i.1)

not_low : (b d : ℕ) → b < 48 → digit_char d ≡ b → ⊥
not_low b d h e = search rules

-- no mark below the digits stands in a hex text
pub hex_lacks : (b : ℕ) (bs : List ℕ) → b < 48 → Lacks b (hex bs)
hex_lacks b [] l k h e = omega arith
hex_lacks b (x ∷ bs) l zero h e = not_low b _ l e
hex_lacks b (x ∷ bs) l (suc zero) h e = not_low b _ l e
hex_lacks b (x ∷ bs) l (suc (suc k)) h e = hex_lacks b bs l k (omega arith) e
