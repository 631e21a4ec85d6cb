-- No file has two reports.
use Rattle.std.proofs.Common.{◌≡◌, ℕ, ◌≤◌, List, [], ◌∷◌, ◌++◌, map, length, replicate, Ok, Err, decimal, Result, sym, refl, ap, ◌∙◌, subst, arith}
use Rattle.std.specs.List.{concat}
use Rattle.texts.proofs.Hexes.{same_bytes}
use Rattle.texts.specs.Hex.{hex, HexOf}
use Rattle.texts.specs.Lines.{line}
use Rattle.hashes.specs.Digests.{digest_bytes}
use Rattle.vector_reports.proofs.Single.{only_entry}
use Rattle.vector_reports.specs.Entries.{SameReading, SameMessage, SameWhole}
use Rattle.vector_files.specs.Vectors.{Means, DigestField, hashed}
use Rattle.vector_files.specs.declared.vector.Fault.{Fault}
use Rattle.vector_files.specs.declared.vector.HashName.{HashName}
use Rattle.vector_files.specs.declared.vector.Message.{Message}
use Rattle.vector_files.specs.declared.vector.Message.TheVariants.{Text, Hex, Repeat}
use Rattle.vector_files.specs.declared.vector.Vector.{Vector}
use Rattle.vector_files.specs.Checks.{Tells, Reports, no_bytes, too_long, NotChecked, no_digest, no_message}
use Rattle.vector_reports.specs.Reports.{Says}
use Rattle.vector_files.specs.Records.{counted, counted_outcome, word_of_outcome, finding_line, record_line, tally_line}
use Rattle.vector_reports.specs.Reports.{Recorded, ends, next, with_records, OneReport}
use Rattle.vector_files.specs.declared.check.Outcome.{Outcome}
use Rattle.vector_files.specs.declared.check.Outcome.TheVariants.{Agrees, Differs}
use Rattle.vector_files.specs.declared.check.Report as found
use Rattle.vector_files.specs.declared.record.Record.{Record}
use Rattle.vector_files.specs.declared.tally.Tally.{Tally}

-- a message stands for one string of bytes
one_meaning : (m : Message) (a b : List ℕ) → Means m a → Means m b → a ≡ b
one_meaning (Text s) a b f g = f ∙ sym g
one_meaning (Hex s) a b f g = same_bytes s.now a b f g
one_meaning (Repeat byte count) a b f g = f ∙ sym g

-- and messages that say the same stand for the same
as_well : (m n : Message) (a : List ℕ) → SameMessage m n → Means m a → Means n a
as_well (Text s) (Text t) a e f = f ∙ e
as_well (Text s) (Hex t) a e f = absurd e
as_well (Text s) (Repeat c n) a e f = absurd e
as_well (Hex s) (Text t) a e f = absurd e
as_well (Hex s) (Hex t) a e f = subst (λ (text : List ℕ). HexOf text a) e f
as_well (Hex s) (Repeat c n) a e f = absurd e
as_well (Repeat b m) (Text t) a e f = absurd e
as_well (Repeat b m) (Hex t) a e f = absurd e
as_well (Repeat b m) (Repeat c n) a (e, k) f = f ∙ ap (λ (byte : ℕ). replicate m byte) e ∙ ap (λ (times : ℕ). replicate times c) k

turned : (m n : Message) → SameMessage m n → SameMessage n m
turned (Text s) (Text t) e = sym e
turned (Text s) (Hex t) e = absurd e
turned (Text s) (Repeat c n) e = absurd e
turned (Hex s) (Text t) e = absurd e
turned (Hex s) (Hex t) e = sym e
turned (Hex s) (Repeat c n) e = absurd e
turned (Repeat b m) (Text t) e = absurd e
turned (Repeat b m) (Hex t) e = absurd e
turned (Repeat b m) (Repeat c n) (e, k) = (sym e, sym k)

-- two outcomes that tell the same are one
one_outcome : (o p : Outcome) (P Q : Type 0) → (P → Q) → (Q → P) → Tells o P → Tells p Q → o ≡ p
one_outcome Agrees Agrees P Q f g x y = refl
one_outcome Agrees Differs P Q f g x y = absurd (y (f x))
one_outcome Differs Agrees P Q f g x y = absurd (x (g y))
one_outcome Differs Differs P Q f g x y = refl

-- Findings that are written and counted alike.
pub record Alike (name other : List ℕ) (f g : Result found.Report Fault) : Type 0 where
  pub line : (n : ℕ) → finding_line n name f ≡ finding_line n other g
  pub count : (t : Tally) → counted t f ≡ counted t g

alike_malformed : (name other : List ℕ) (f g : Fault) → f ≡ g → Alike name other (Err f) (Err g)
alike_malformed name other f g e = record { line = λ n. ap (λ (k : Fault). finding_line n [] (Err k)) e; count = λ t. refl }

alike_checked : (name other : List ℕ) (r s : found.Report) → name ≡ other → r.length ≡ s.length → digest_bytes r.digest ≡ digest_bytes s.digest
    → r.outcome ≡ s.outcome → Alike name other (Ok r) (Ok s)
alike_checked name other r s e f g h = record {
  line = λ n i. line (e i ∷ (decimal (f i) ∷ (hex (g i) ∷ (word_of_outcome (h i) ∷ []))));
  count = λ t. ap (counted_outcome t) h;
}

module _ (room : ℕ) (v w : Vector) (same : SameWhole v w) where
  -- the expected digest and the message of the one are those of the other
  digest_forth : (bytes : List ℕ) → DigestField v.hash v.expected.now bytes → DigestField w.hash w.expected.now bytes
  digest_forth bytes f =
      subst (λ (h : HashName). DigestField h w.expected.now bytes) same.hash
      (subst (λ (s : List ℕ). DigestField v.hash s bytes) same.digest f)

  digest_back : (bytes : List ℕ) → DigestField w.hash w.expected.now bytes → DigestField v.hash v.expected.now bytes
  digest_back bytes f =
      subst (λ (h : HashName). DigestField h v.expected.now bytes) (sym same.hash)
      (subst (λ (s : List ℕ). DigestField w.hash s bytes) (sym same.digest) f)

  means_forth : (a : List ℕ) → Means v.message a → Means w.message a
  means_forth a m = as_well v.message w.message a same.message m

  means_back : (a : List ℕ) → Means w.message a → Means v.message a
  means_back a m = as_well w.message v.message a (turned v.message w.message same.message) m

  one_message : (a b : List ℕ) → Means v.message a → Means w.message b → a ≡ b
  one_message a b m n = one_meaning w.message a b (means_forth a m) n

  both_checked : (a b : List ℕ) (r s : found.Report) → Means v.message a → Means w.message b → Reports v a r → Reports w b s
      → Alike v.name.now w.name.now (Ok r) (Ok s)
  both_checked a b r s m n p q =
      let e = one_message a b m n in
      let d : hashed v.hash a ≡ hashed w.hash b = ap (λ (h : HashName). hashed h a) same.hash ∙ ap (hashed w.hash) e in
      alike_checked v.name.now w.name.now r s same.name (p.length ∙ ap length e ∙ sym q.length) (p.digest ∙ d ∙ sym q.digest)
      (one_outcome r.outcome s.outcome _ _
      (λ f. subst (DigestField w.hash w.expected.now) d (digest_forth _ f))
      (λ f. digest_back _ (subst (DigestField w.hash w.expected.now) (sym d) f))
      p.outcome q.outcome)

  -- where the one was checked, the other can be
  checkable : (a : List ℕ) (r : found.Report) (f : Fault) → Means v.message a → length a ≤ room → Reports v a r → NotChecked w room f → ⊥
  checkable a r f m fits p (no_digest none) = none p.expected.0 (digest_forth _ p.expected.1)
  checkable a r f m fits p (no_message _ _ (no_bytes none)) = none a (means_forth a m)
  checkable a r f m fits p (no_message _ _ (too_long b n long)) = omega (arith, ap length (one_message a b m n))

  -- and the other way round
  checkable_back : (b : List ℕ) (s : found.Report) (f : Fault) → Means w.message b → length b ≤ room → Reports w b s → NotChecked v room f → ⊥
  checkable_back b s f n fits q (no_digest none) = none q.expected.0 (digest_back _ q.expected.1)
  checkable_back b s f n fits q (no_message _ _ (no_bytes none)) = none b (means_back b n)
  checkable_back b s f n fits q (no_message _ _ (too_long a m long)) = omega (arith, ap length (one_message a b m n))

  one_fault : (f g : Fault) → NotChecked v room f → NotChecked w room g → f ≡ g
  one_fault f g (no_digest _) (no_digest _) = refl
  one_fault f g (no_digest none) (no_message b d _) = absurd (none b (digest_back b d))
  one_fault f g (no_message b d _) (no_digest none) = absurd (none b (digest_forth b d))
  one_fault f g (no_message _ _ (no_bytes _)) (no_message _ _ (no_bytes _)) = refl
  one_fault f g (no_message _ _ (no_bytes none)) (no_message _ _ (too_long b n _)) = absurd (none b (means_back b n))
  one_fault f g (no_message _ _ (too_long a m _)) (no_message _ _ (no_bytes none)) = absurd (none a (means_forth a m))
  one_fault f g (no_message _ _ (too_long _ _ _)) (no_message _ _ (too_long _ _ _)) = refl

  one_finding : (name other : List ℕ) (f g : Result found.Report Fault) → Says room (Ok v) name f → Says room (Ok w) other g → Alike name other f g
  one_finding name other (Ok r) (Ok s) (e, (a, m, _, p)) (k, (b, n, _, q)) =
      subst (λ (x : List ℕ). Alike x other (Ok r) (Ok s)) (sym e)
      (subst (λ (x : List ℕ). Alike v.name.now x (Ok r) (Ok s)) (sym k) (both_checked a b r s m n p q))
  one_finding name other (Ok r) (Err g) (_, (a, m, fits, p)) (_, n) = absurd (checkable a r g m fits p n)
  one_finding name other (Err f) (Ok s) (_, n) (_, (b, m, fits, q)) = absurd (checkable_back b s f m fits q n)
  one_finding name other (Err f) (Err g) (_, x) (_, y) = alike_malformed name other f g (one_fault f g x y)

-- readings that say the same are recorded alike
one_saying : (room : ℕ) (a b : Result Vector Fault) (name other : List ℕ) (f g : Result found.Report Fault) → SameReading a b → Says room a name f → Says room b other g → Alike name other f g
one_saying room (Ok v) (Ok w) name other f g same x y = one_finding room v w same name other f g x y
one_saying room (Ok v) (Err k) name other f g same x y = absurd same
one_saying room (Err h) (Ok w) name other f g same x y = absurd same
one_saying room (Err h) (Err k) name other f g same (x, _) (y, _) =
    subst (λ (z : Result found.Report Fault). Alike name other z g) (sym x) (subst (λ (z : Result found.Report Fault). Alike name other (Err h) z) (sym y) (alike_malformed name other h k same))

-- the lines of records, and their count behind any tally
abbrev lines_of : List Record → List ℕ
lines_of rs = concat (map record_line rs)

record Both (rs ss : List Record) : Type 0 where
  lines : lines_of rs ≡ lines_of ss
  count : (t : Tally) → with_records t rs ≡ with_records t ss

both_next : (r s : Record) (rs ss : List Record) → r.line ≡ s.line → Alike r.name.now s.name.now r.finding s.finding → Both rs ss → Both (r ∷ rs) (s ∷ ss)
both_next r s rs ss e a b = record {
  lines =
      ap (λ (x : List ℕ). x ++ lines_of rs) (ap (λ (n : ℕ). finding_line n r.name.now r.finding) e ∙ a.line s.line)
      ∙ ap (λ (x : List ℕ). record_line s ++ x) b.lines;
  count = λ t. ap (λ (x : Tally). with_records x rs) (a.count t) ∙ b.count (counted t s.finding);
}

one_list : {room passed : ℕ} {text : List ℕ} {rs ss : List Record} → Recorded room passed text rs → Recorded room passed text ss → Both rs ss
one_list (ends _) (ends _) = record { lines = refl; count = λ t. refl }
one_list (ends a) (next b _ _ _) = absurd (only_entry a _ _ _ b).0
one_list (next a _ _ _) (ends b) = absurd (only_entry a _ _ _ b).0
one_list {room} (next {later = p} {left = x} {e = d} {r = r} {rs = rs} a m says more) (next {later = q} {left = y} {e = e} {r = s} {rs = ss} b n also rest) =
    let same = only_entry a _ _ _ b in
    both_next r s rs ss (m ∙ same.0.0 ∙ sym n) (one_saying room d.vector e.vector _ _ _ _ same.0.1 says also)
    (one_list more (subst (λ (k : ℕ). Recorded room k x ss) (sym same.1) (subst (λ (left : List ℕ). Recorded room q left ss) (sym same.2) rest)))

pub one_report : OneReport
one_report room file a b s t x y =
    let both = one_list x.recorded y.recorded in
    let end : s ≡ t = x.tallied ∙ both.count _ ∙ sym y.tallied in
    (x.written ∙ ap (λ (lines : List ℕ). lines ++ tally_line s) both.lines ∙ ap (λ (z : Tally). lines_of y.records ++ tally_line z) end ∙ sym y.written, end)
