-- A record tells the lengths and the digests of the recordings and of the library.
use Rattle.std.proofs.Common.{◌≡◌, ℕ, ◌+◌, ◌/◌, ◌%◌, ◌^◌, ◌<◌, List, [], ◌∷◌, ◌++◌, length, codes, decimal, sym, refl, ap, ◌∙◌, subst, inl, inr, append_assoc, append-nil, arith, rules}
use Rattle.std.proofs.lemmas.Fmt.{decimal_by_steps, decimal_injective}
use Rattle.std.proofs.lemmas.List.Elements.{length_all_zip}
use Rattle.std.proofs.ByRecursion.{All-push, All-from_get_or, All-weaker}
use Rattle.std.proofs.lemmas.List.{length-append}
use Rattle.std.proofs.lemmas.Bool.{cases_lt}
use Rattle.std.specs.Char.{digit_char}
use Rattle.std.specs.List.{concat, AllZip, AllByRecursion}
use Rattle.texts.proofs.Tabs.{Unbroken, line_told}
use Rattle.texts.specs.Hex.{hex}
use Rattle.texts.specs.Lines.{line}
use Rattle.hashes.specs.Fnv.{fnv1a}
use Rattle.sha256.specs.Message.{sha256}
use Rattle.recordings.proofs.Cuts.{length-recordings, only_cut}
use Rattle.recordings.specs.Recordings.{recordings}
use Rattle.inventories.specs.Alike.{Alike, SameRecord}
use Rattle.inventories.specs.Texts.{record_line, entry_lines}

-- the two kinds of lines
abbrev entry_line : ℕ → ℕ → List ℕ → List ℕ → List ℕ
entry_line number size fnv sha = line (decimal number ∷ (decimal size ∷ (hex fnv ∷ (hex sha ∷ []))))

abbrev library_line : ℕ → List ℕ → List ℕ → List ℕ
library_line count fnv sha = line (codes "library" ∷ (decimal count ∷ (hex fnv ∷ (hex sha ∷ []))))

digit_over : (d : ℕ) → 10 < digit_char d
digit_over d = search rules

same_digit : (d e : ℕ) → digit_char d ≡ digit_char e → d ≡ e
same_digit d e p = search rules

field_hex : (bytes : List ℕ) → Unbroken (hex bytes)
field_hex [] = tt
field_hex (b ∷ bytes) = (digit_over (b / 16), (digit_over (b % 16), field_hex bytes))

same_hex : (a b : List ℕ) → hex a ≡ hex b → a ≡ b
same_hex [] [] e = refl
same_hex [] (y ∷ b) e = absurd (omega (arith, ap length e))
same_hex (x ∷ a) [] e = absurd (omega (arith, ap length e))
same_hex (x ∷ a) (y ∷ b) e =
    let u : digit_char (x / 16) ≡ digit_char (y / 16) = cc in
    let l : digit_char (x % 16) ≡ digit_char (y % 16) = cc in
    let t : hex a ≡ hex b = cc in
    let h : x ≡ y = omega (arith, same_digit (x / 16) (y / 16) u, same_digit (x % 16) (y % 16) l) in
    let m = same_hex a b t in
    cc

-- digits are below the letters
digits : (n : ℕ) → n < 2 ^ 64 → AllByRecursion (λ b. (10 < b) × (b < 58)) (decimal n)
digits = decimal_by_steps (λ n ds. AllByRecursion (λ b. (10 < b) × (b < 58)) ds)
    (λ n small. ((omega arith, omega arith), tt))
    (λ n ds more all. All-push _ ds (48 + n % 10) all (omega arith, omega arith))

field_decimal : (n : ℕ) → n < 2 ^ 64 → Unbroken (decimal n)
field_decimal n h = All-weaker _ _ (λ b p. p.0) (decimal n) (digits n h)

entry_fields : (n l : ℕ) (f s : List ℕ) → n < 2 ^ 64 → l < 2 ^ 64 → AllByRecursion Unbroken (decimal n ∷ (decimal l ∷ (hex f ∷ (hex s ∷ []))))
entry_fields n l f s h k = (field_decimal n h, (field_decimal l k, (field_hex f, (field_hex s, tt))))

last_fields : (m : ℕ) (f s : List ℕ) → m < 2 ^ 64 → AllByRecursion Unbroken (codes "library" ∷ (decimal m ∷ (hex f ∷ (hex s ∷ []))))
last_fields m f s h =
    ((omega arith, (omega arith, (omega arith, (omega arith, (omega arith, (omega arith, (omega arith, tt))))))), (field_decimal m h, (field_hex f, (field_hex s, tt))))

-- a line of four fields tells each of them, whatever follows it
four_told : (f g h i f' g' h' i' r s : List ℕ) → AllByRecursion Unbroken (f ∷ (g ∷ (h ∷ (i ∷ [])))) → AllByRecursion Unbroken (f' ∷ (g' ∷ (h' ∷ (i' ∷ []))))
    → line (f ∷ (g ∷ (h ∷ (i ∷ [])))) ++ r ≡ line (f' ∷ (g' ∷ (h' ∷ (i' ∷ [])))) ++ s → (f ≡ f') × (g ≡ g') × (h ≡ h') × (i ≡ i') × (r ≡ s)
four_told f g h i f' g' h' i' r s p q e =
    let m : ((f ∷ (g ∷ (h ∷ (i ∷ [])))) ≡ (f' ∷ (g' ∷ (h' ∷ (i' ∷ []))))) × (r ≡ s) = line_told f f' (g ∷ (h ∷ (i ∷ []))) (g' ∷ (h' ∷ (i' ∷ []))) r s p q e in
    let fields = m.0 in
    ((cc fields), (cc fields), (cc fields), (cc fields), m.1)

-- an entry's line tells the length and the digests
entry_told : (n l k : ℕ) (f s g t r q : List ℕ) → n < 2 ^ 64 → l < 2 ^ 64 → k < 2 ^ 64 → entry_line n l f s ++ r ≡ entry_line n k g t ++ q
    → (l ≡ k) × (f ≡ g) × (s ≡ t) × (r ≡ q)
entry_told n l k f s g t r q h i j e =
    let m = four_told (decimal n) (decimal l) (hex f) (hex s) (decimal n) (decimal k) (hex g) (hex t) r q (entry_fields n l f s h i) (entry_fields n k g t h j) e in
    (decimal_injective l k i j m.1, same_hex f g m.2, same_hex s t m.3, m.4)

-- the last line tells the digests
last_told : (m k : ℕ) (f s g t : List ℕ) → m < 2 ^ 64 → k < 2 ^ 64 → library_line m f s ≡ library_line k g t → (f ≡ g) × (s ≡ t)
last_told m k f s g t i j e =
    let n = four_told (codes "library") (decimal m) (hex f) (hex s) (codes "library") (decimal k) (hex g) (hex t) [] [] (last_fields m f s i) (last_fields k g t j)
    (ap (λ (x : List ℕ). x ++ []) e) in
    (same_hex f g n.2, same_hex s t n.3)

-- the last line is no entry: no number looks like its word
not_last : (m n l : ℕ) (f s g t r : List ℕ) → m < 2 ^ 64 → n < 2 ^ 64 → l < 2 ^ 64 → library_line m f s ≡ entry_line n l g t ++ r → ⊥
not_last m n l f s g t r h i j e =
    let k = four_told (codes "library") (decimal m) (hex f) (hex s) (decimal n) (decimal l) (hex g) (hex t) [] r (last_fields m f s h) (entry_fields n l g t i j)
    (append-nil (library_line m f s) ∙ e) in
    omega (arith, (subst (λ (ds : List ℕ). AllByRecursion (λ b. (10 < b) × (b < 58)) ds) (sym k.0) (digits n i)).0.1)

abbrev Small : List ℕ → Type 0
Small bytes = length bytes < 2 ^ 64

abbrev Ended : ℕ → List (List ℕ) → ℕ → List ℕ → List ℕ
Ended n xs m a = entry_lines n xs ++ library_line m (fnv1a a) (sha256 a)

-- a and b are the whole libraries, m and k the counts on their last lines
entries_told : (n : ℕ) (xs ys : List (List ℕ)) (m k : ℕ) (a b : List ℕ) → n + length xs < 2 ^ 64 → n + length ys < 2 ^ 64 → AllByRecursion Small xs → AllByRecursion Small ys → m < 2 ^ 64 → k < 2 ^ 64
    → Ended n xs m a ≡ Ended n ys k b → AllZip Alike xs ys × ((fnv1a a ≡ fnv1a b) × (sha256 a ≡ sha256 b))
unfolding record_line
entries_told n [] [] m k a b p q s t i j e = (tt, last_told m k (fnv1a a) (sha256 a) (fnv1a b) (sha256 b) i j e)
entries_told n [] (y ∷ ys) m k a b p q s t i j e =
    absurd (not_last m n (length y) (fnv1a a) (sha256 a) (fnv1a y) (sha256 y) _ i (omega arith) t.0 (e ∙ append_assoc (entry_line n (length y) (fnv1a y) (sha256 y)) (entry_lines (n + 1) ys) _))
entries_told n (x ∷ xs) [] m k a b p q s t i j e =
    absurd (not_last k n (length x) (fnv1a b) (sha256 b) (fnv1a x) (sha256 x) _ j (omega arith) s.0 (sym e ∙ append_assoc (entry_line n (length x) (fnv1a x) (sha256 x)) (entry_lines (n + 1) xs) _))
entries_told n (x ∷ xs) (y ∷ ys) m k a b p q s t i j e =
    let f = entry_told n (length x) (length y) (fnv1a x) (sha256 x) (fnv1a y) (sha256 y) (Ended (n + 1) xs m a) (Ended (n + 1) ys k b) (omega arith) s.0 t.0
    (sym (append_assoc (entry_line n (length x) (fnv1a x) (sha256 x)) (entry_lines (n + 1) xs) _) ∙ e ∙ append_assoc (entry_line n (length y) (fnv1a y) (sha256 y)) (entry_lines (n + 1) ys) _) in
    let g = entries_told (n + 1) xs ys m k a b (omega arith) (omega arith) s.1 t.1 i j f.3 in
    ((record { long = f.0; fnv = f.1; sha = f.2 }, g.0), g.1)

entries_same : (n : ℕ) (xs ys : List (List ℕ)) → AllZip Alike xs ys → entry_lines n xs ≡ entry_lines n ys
unfolding record_line
entries_same n [] [] h = refl
entries_same n [] (y ∷ ys) h = elim h [ ]
entries_same n (x ∷ xs) [] h = elim h [ ]
entries_same n (x ∷ xs) (y ∷ ys) h =
    let first : entry_line n (length x) (fnv1a x) (sha256 x) ≡ entry_line n (length y) (fnv1a y) (sha256 y) =
    (λ i. entry_line n (h.0.long i) (h.0.fnv i) (h.0.sha i)) in
    (λ i. first i ++ entries_same (n + 1) xs ys h.1 i)

length-concat : (xs ys : List (List ℕ)) → AllZip Alike xs ys → length (concat xs) ≡ length (concat ys)
length-concat [] [] h = refl
length-concat [] (y ∷ ys) h = elim h [ ]
length-concat (x ∷ xs) [] h = elim h [ ]
length-concat (x ∷ xs) (y ∷ ys) h = omega (arith, length-append x (concat xs), length-append y (concat ys), h.0.long, length-concat xs ys h.1)

length_whole : (a b : List ℕ) → AllZip Alike (recordings a) (recordings b) → length a ≡ length b
length_whole a b h = ap length (sym (only_cut a).cut.whole) ∙ length-concat (recordings a) (recordings b) h ∙ ap length (only_cut b).cut.whole

small_recordings : (a : List ℕ) → AllByRecursion Small (recordings a)
small_recordings a = All-from_get_or _ (recordings a) [] (λ j below. elim (cases_lt (j + 1) (length (recordings a))) [
  | inl h ↦ omega (arith, (only_cut a).cut.full j h)
  | inr h ↦ omega (arith, ((only_cut a).cut.last j (omega arith)).1)
])

few_recordings : (a : List ℕ) → Small a → length (recordings a) < 2 ^ 64
few_recordings a h = omega (arith, length-recordings a)

pub same_record : (a b : List ℕ) → Small a → Small b → SameRecord a b
unfolding record_line
same_record a b h k =
    let m = few_recordings a h in
    let n = few_recordings b k in
    record {
      told = λ e. let t = entries_told 0 (recordings a) (recordings b) _ _ a b (omega (arith, m)) (omega (arith, n)) (small_recordings a) (small_recordings b) m n e in
          (t.0, record { long = length_whole a b t.0; fnv = t.1.0; sha = t.1.1 });
      same = λ each whole. λ i. entries_same 0 (recordings a) (recordings b) each i ++ library_line (length_all_zip Alike (recordings a) (recordings b) each i) (whole.fnv i) (whole.sha i);
    }
