use Rattle.std.proofs.Common.{◌≡◌, ℕ, ◌-◌, List, length, take, drop, replicate, Ok, sym, refl, ap, ◌∙◌, subst, arith}
use Rattle.std.proofs.lemmas.List.{take_at}
use Rattle.texts.proofs.Hexes.{same_bytes}
use Rattle.hashes.specs.Digests.{digest_bytes}
use Rattle.hashes.specs.declared.digest.Digest.{Digest}
use Rattle.vector_files.specs.declared.check.Digests.{Digests}
use Rattle.vector_files.specs.declared.check.Outcome.{Outcome}
use Rattle.vector_files.specs.declared.check.Outcome.TheVariants.{Agrees, Differs}
use Rattle.vector_files.specs.declared.vector.Fault.{Fault}
use Rattle.vector_files.specs.declared.vector.Fault.TheVariants as fault
use Rattle.vector_files.specs.declared.vector.Message.{Message}
use Rattle.vector_files.specs.declared.vector.Message.TheVariants.{Text, Hex, Repeat}
use Rattle.vector_files.specs.declared.vector.Vector.{Vector}
use Rattle.vector_files.specs.Vectors.{GoodMessage, GoodVector, Means, DigestField, hashed}
use Rattle.vector_files.specs.Checks.{BothAre, Expanded, Tells, CheckedVector, NotExpanded, no_bytes, too_long, NotChecked, no_digest, no_message}

-- a digest is the expected one exactly when the expected field is its text
told : (v : Vector) (expected d e found : List ℕ) (o : Outcome) → DigestField v.hash v.expected.now expected → d ≡ found → e ≡ found
    → Tells o ((d ≡ expected) × (e ≡ expected)) → Tells o (DigestField v.hash v.expected.now found)
told v expected d e found Agrees f p q (s, t) = subst (DigestField v.hash v.expected.now) (sym s ∙ p) f
told v expected d e found Differs f p q n = λ g.
    let k = same_bytes v.expected.now found expected g.hex f.hex in
    n (p ∙ k, q ∙ k)

pub reported : (v : Vector) (old new : List ℕ) (n : ℕ) (expected : Digest) (d : Digests) (o : Outcome)
    → DigestField v.hash v.expected.now (digest_bytes expected) → Expanded v.message old new (Ok n) → BothAre (hashed v.hash (take (n - 0) new)) d
    → Tells o (BothAre (digest_bytes expected) d) → CheckedVector v old new (Ok (record { length = n; digest = d.whole; outcome = o }))
reported v old new n expected d o f (bytes, m, l, i) (p, q) t =
    let z : length bytes ≡ n - 0 = omega arith in
    let e : take (n - 0) new ≡ bytes = ap (take (n - 0)) i.after ∙ take_at bytes (drop (length bytes) old) (n - 0) z in
    let a : digest_bytes d.whole ≡ hashed v.hash bytes = p ∙ ap (hashed v.hash) e in
    let b : digest_bytes d.in_pieces ≡ hashed v.hash bytes = q ∙ ap (hashed v.hash) e in
    (bytes, m, i, record { length = sym l; digest = a; expected = (digest_bytes expected, f); outcome = told v (digest_bytes expected) (digest_bytes d.whole) (digest_bytes d.in_pieces) (hashed v.hash bytes) o f a b t })

-- a good message has bytes, and so only its length can be in the way
has_bytes : (m : Message) → GoodMessage m → (bytes : List ℕ) × Means m bytes
has_bytes (Text s) g = (s.now, refl)
has_bytes (Hex s) g = g
has_bytes (Repeat b n) g = (replicate n b, refl)

only_long : (m : Message) (room : ℕ) (f : Fault) → GoodMessage m → NotExpanded m room f → f ≡ fault.TooLong
only_long m room f g (no_bytes none) = let b = has_bytes m g in absurd (none b.0 b.1)
only_long m room f g (too_long _ _ _) = refl

pub good_only_long : (v : Vector) (room : ℕ) (f : Fault) → NotChecked v room f → GoodVector v → f ≡ fault.TooLong
good_only_long v room f (no_digest none) g = absurd (none g.digest.0 g.digest.1)
good_only_long v room f (no_message _ _ n) g = only_long v.message room f g.message n
