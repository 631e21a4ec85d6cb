use Rattle.std.proofs.Common.{◌≡◌, ℕ, List, [], ◌∷◌, length, Ok, Err, codes, decimal, Result, sym, refl, ap, ◌∙◌, subst, arith}
use Rattle.std.proofs.ByRecursion.{All-get_or}
use Rattle.texts.specs.Cuts.{Lacks}
use Rattle.texts.specs.Hex.{hex, HexOf}
use Rattle.texts.proofs.Hexes.{hex_lacks}
use Rattle.texts.proofs.Numerals.{numeral_of, numeral_lacks}
use Rattle.texts.proofs.Pieces.{lacks-append, lacks-cons, lacks_test}
use Rattle.vector_files.specs.declared.vector.HashName.{HashName}
use Rattle.vector_files.specs.declared.vector.HashName.TheVariants.{Fnv1a64, Sha256}
use Rattle.vector_files.specs.declared.vector.Message.{Message}
use Rattle.vector_files.specs.declared.vector.Message.TheVariants.{Text, Hex, Repeat}
use Rattle.vector_files.specs.declared.vector.Vector.{Vector}
use Rattle.vector_files.specs.declared.vector.Fault.{Fault}
use Rattle.vector_files.specs.Tabs.{Five}
use Rattle.vector_files.specs.Vectors.{hash_word, form_word, message_field, GoodMessage, Printable, GoodName, DigestField, GoodVector, SameVector, vector_line, WrongMessage, no_form, no_message, RefusedFields, name, hash, message, digest, Refused, field_count, fields}
use Rattle.vector_files.proofs.Tabbing.{one_more, rest_of}

-- no field of a good vector holds a tab
name_lacks : (s : List ℕ) → GoodName s → Lacks 9 s
name_lacks s g k h e = omega (arith, (All-get_or Printable s k 0 h g.printable).low)

hash_lacks : (h : HashName) → Lacks 9 (hash_word h)
hash_lacks Fnv1a64 = lacks_test 9 (codes "fnv1a64") refl
hash_lacks Sha256 = lacks_test 9 (codes "sha256") refl

form_lacks : (m : Message) → Lacks 9 (form_word m)
form_lacks (Text s) = lacks_test 9 (codes "text") refl
form_lacks (Hex s) = lacks_test 9 (codes "hex") refl
form_lacks (Repeat b n) = lacks_test 9 (codes "repeat") refl

hex_text_lacks : (s bytes : List ℕ) → HexOf s bytes → Lacks 9 s
hex_text_lacks s bytes h = subst (Lacks 9) (sym h.written) (hex_lacks 9 bytes (omega arith))

message_lacks : (m : Message) → GoodMessage m → Lacks 9 (message_field m)
message_lacks (Text s) g = g
message_lacks (Hex s) g = hex_text_lacks s.now g.0 g.1
message_lacks (Repeat b n) g =
    lacks-append 9 (hex (b ∷ [])) (42 ∷ decimal n) (hex_lacks 9 (b ∷ []) (omega arith))
    (lacks-cons 9 42 (decimal n) (λ e. omega arith) (numeral_lacks 9 7 n (decimal n) (omega arith) (numeral_of 7 n (omega arith) g.1 (omega (arith, g.1)))))

-- the five fields of a good vector's line
pub good_five : (line : List ℕ) (v : Vector) → GoodVector v → line ≡ vector_line v
    → Five line v.name.now (hash_word v.hash) (form_word v.message) (message_field v.message) v.expected.now
good_five line v g e = record {
  whole = e;
  no_tab = (
    name_lacks v.name.now g.name,
    (
      hash_lacks v.hash,
      (
        form_lacks v.message,
        (
          message_lacks v.message g.message,
          (hex_text_lacks v.expected.now g.digest.0 g.digest.1.hex, tt),
        ),
      ),
    ),
  );
}

-- a line has five fields in one way
pub record Same5 (a b c d e a' b' c' d' e' : List ℕ) : Type 0 where
  pub a_same : a ≡ a'
  pub b_same : b ≡ b'
  pub c_same : c ≡ c'
  pub d_same : d ≡ d'
  pub e_same : e ≡ e'

one_five : {line a b c d e a' b' c' d' e' : List ℕ} → Five line a b c d e → Five line a' b' c' d' e' → Same5 a b c d e a' b' c' d' e'
one_five {line} {a} {b} {c} {d} {e} {a'} {b'} {c'} {d'} {e'} p q =
    let s1 = one_more line a b a' b' _ _ p q in
    let p1 = rest_of line a b _ p in
    let s2 = one_more _ b c b' c' _ _ p1 s1.1 in
    let p2 = rest_of _ b c _ p1 in
    let s3 = one_more _ c d c' d' _ _ p2 s2.1 in
    let p3 = rest_of _ c d _ p2 in
    let s4 = one_more _ d e d' e' _ _ p3 s3.1 in
    record { a_same = s1.0; b_same = s2.0; c_same = s3.0; d_same = s4.0; e_same = s4.1.whole }

same_hash : (h k : HashName) → hash_word h ≡ hash_word k → h ≡ k
same_hash Fnv1a64 Fnv1a64 e = refl
same_hash Fnv1a64 Sha256 e = absurd (omega (arith, ap length e))
same_hash Sha256 Fnv1a64 e = absurd (omega (arith, ap length e))
same_hash Sha256 Sha256 e = refl

pub one_vector : (line : List ℕ) (v w : Vector) → GoodVector v → line ≡ vector_line v → GoodVector w → line ≡ vector_line w → SameVector v w
one_vector line v w g e h f =
    let s = one_five (good_five line v g e) (good_five line w h f) in
    record { name = s.a_same; hash = same_hash v.hash w.hash s.b_same; form = s.c_same; message = s.d_same; digest = s.e_same }

-- a line with a fault is no good vector's line
wrong_none : (form field : List ℕ) (f : Fault) → WrongMessage form field f → (m : Message) → GoodMessage m → form ≡ form_word m → field ≡ message_field m → ⊥
wrong_none form field f (no_form none) m g e i = none m e
wrong_none form field f (no_message _ _ none) m g e i = none m g e i

refused_fields : (a b c d e : List ℕ) (f : Fault) → RefusedFields a b c d e f → (v : Vector) → GoodVector v
    → Same5 a b c d e v.name.now (hash_word v.hash) (form_word v.message) (message_field v.message) v.expected.now → ⊥
refused_fields a b c d e f (name bad) v g s = bad (subst GoodName (sym s.a_same) g.name)
refused_fields a b c d e f (hash _ none) v g s = none v.hash s.b_same
refused_fields a b c d e f (message _ _ _ w) v g s = wrong_none c d f w v.message g.message s.c_same s.d_same
refused_fields a b c d e f (digest _ h i _ _ _ _ none) v g s =
    let k = same_hash v.hash h (sym s.b_same ∙ i) in
    let D : HashName → List ℕ → Type 0 = λ x t. DigestField x t g.digest.0 in
    none g.digest.0 (subst (λ x. D x e) k (subst (D v.hash) (sym s.e_same) g.digest.1))

pub refused_none : (line : List ℕ) (f : Fault) → Refused line f → (v : Vector) → GoodVector v → line ≡ vector_line v → ⊥
refused_none line f (field_count none) v g e = none _ _ _ _ _ (good_five line v g e)
refused_none line f (fields five r) v g e = refused_fields _ _ _ _ _ f r v g (one_five five (good_five line v g e))

-- a line has one first fault
one_wrong : (form field : List ℕ) (f k : Fault) → WrongMessage form field f → WrongMessage form field k → f ≡ k
one_wrong form field f k (no_form none) (no_form _) = refl
one_wrong form field f k (no_form none) (no_message m e _) = absurd (none m e)
one_wrong form field f k (no_message m e _) (no_form none) = absurd (none m e)
one_wrong form field f k (no_message _ _ _) (no_message _ _ _) = refl

one_field_fault : (a b c d e : List ℕ) (f k : Fault) → RefusedFields a b c d e f → RefusedFields a b c d e k → f ≡ k
one_field_fault a b c d e f k (name _) (name _) = refl
one_field_fault a b c d e f k (name bad) (hash g _) = absurd (bad g)
one_field_fault a b c d e f k (name bad) (message g _ _ _) = absurd (bad g)
one_field_fault a b c d e f k (name bad) (digest g _ _ _ _ _ _ _) = absurd (bad g)
one_field_fault a b c d e f k (hash g _) (name bad) = absurd (bad g)
one_field_fault a b c d e f k (hash _ _) (hash _ _) = refl
one_field_fault a b c d e f k (hash _ none) (message _ h i _) = absurd (none h i)
one_field_fault a b c d e f k (hash _ none) (digest _ h i _ _ _ _ _) = absurd (none h i)
one_field_fault a b c d e f k (message g _ _ _) (name bad) = absurd (bad g)
one_field_fault a b c d e f k (message _ h i _) (hash _ none) = absurd (none h i)
one_field_fault a b c d e f k (message _ _ _ w) (message _ _ _ x) = one_wrong c d f k w x
one_field_fault a b c d e f k (message _ _ _ w) (digest _ _ _ m g i j _) = absurd (wrong_none c d f w m g i j)
one_field_fault a b c d e f k (digest g _ _ _ _ _ _ _) (name bad) = absurd (bad g)
one_field_fault a b c d e f k (digest _ h i _ _ _ _ _) (hash _ none) = absurd (none h i)
one_field_fault a b c d e f k (digest _ _ _ m g i j _) (message _ _ _ w) = absurd (wrong_none c d k w m g i j)
one_field_fault a b c d e f k (digest _ _ _ _ _ _ _ _) (digest _ _ _ _ _ _ _ _) = refl

moved : (a b c d e a' b' c' d' e' : List ℕ) (f : Fault) → Same5 a b c d e a' b' c' d' e' → RefusedFields a b c d e f → RefusedFields a' b' c' d' e' f
moved a b c d e a' b' c' d' e' f s r =
    subst (λ x. RefusedFields a' b' c' d' x f) s.e_same
    (subst (λ x. RefusedFields a' b' c' x e f) s.d_same
    (subst (λ x. RefusedFields a' b' x d e f) s.c_same
    (subst (λ x. RefusedFields a' x c d e f) s.b_same
    (subst (λ x. RefusedFields x b c d e f) s.a_same r))))

pub one_fault : (line : List ℕ) (f k : Fault) → Refused line f → Refused line k → f ≡ k
one_fault line f k (field_count _) (field_count _) = refl
one_fault line f k (field_count none) (fields five _) = absurd (none _ _ _ _ _ five)
one_fault line f k (fields five _) (field_count none) = absurd (none _ _ _ _ _ five)
one_fault line f k (fields p r) (fields q s) = one_field_fault _ _ _ _ _ f k (moved _ _ _ _ _ _ _ _ _ _ f (one_five p q) r) s

-- the clauses of `read_vector`, beside the first
pub no_answer : (line : List ℕ) (f : Fault) → Refused line f → (k : Fault) → Refused line k → ◌≡◌ {A = Result Vector Fault} (Err f) (Err k)
no_answer line f r k q = ap Err (one_fault line f k r q)

pub no_fault : (line : List ℕ) (v : Vector) → GoodVector v → line ≡ vector_line v → (k : Fault) → Refused line k → ◌≡◌ {A = Result Vector Fault} (Ok v) (Err k)
no_fault line v g e k q = absurd (refused_none line k q v g e)

-- what the readers of the fields found, put together
pub a_vector : (line : List ℕ) (v : Vector) (a b c d bytes : List ℕ) → Five line a b c d v.expected.now → GoodName a → v.name.now ≡ a
    → b ≡ hash_word v.hash → GoodMessage v.message → c ≡ form_word v.message → d ≡ message_field v.message
    → DigestField v.hash v.expected.now bytes → GoodVector v × (line ≡ vector_line v)
a_vector line v a b c d bytes five g n h m form field dig = (
  record { name = subst GoodName (sym n) g; message = m; digest = (bytes, dig) },
  five.whole ∙ cc (n, h, form, field),
)
