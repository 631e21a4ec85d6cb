use Rattle.std.proofs.Common.{◌≡◌, ℕ, zero, suc, Bool, true, false, cond, eqb, List, [], ◌∷◌, ◌++◌, sym, refl, ◌∙◌, subst, arith}
use borrow.Author.Tests.{eqb-false, both_ways}
use Rattle.texts.specs.Cuts.{FirstCut, Lacks}

lacks_tail : (b x : ℕ) (p : List ℕ) → Lacks b (x ∷ p) → Lacks b p
lacks_tail b x p l k h f = l (suc k) (omega arith) f

pub lacks-cons : (b x : ℕ) (xs : List ℕ) → (x ≡ b → ⊥) → Lacks b xs → Lacks b (x ∷ xs)
lacks-cons b x xs n l zero h e = n e
lacks-cons b x xs n l (suc k) h e = l k (omega arith) e

pub lacks-append : (b : ℕ) (xs ys : List ℕ) → Lacks b xs → Lacks b ys → Lacks b (xs ++ ys)
lacks-append b [] ys l m k h e = m k h e
lacks-append b (x ∷ xs) ys l m zero h e = l 0 (omega arith) e
lacks-append b (x ∷ xs) ys l m (suc k) h e = lacks-append b xs ys (lacks_tail b x xs l) m k (omega arith) e

-- whether b stands in xs, computed: for a text that is written out
abbrev pub has : ℕ → List ℕ → Bool
has b [] = false
has b (x ∷ xs) = cond (eqb x b) true (has b xs)

neither : (t s : Bool) → cond t true s ≡ false → (t ≡ false) × (s ≡ false)
neither true s e = absurd (both_ways true e refl)
neither false s e = (refl, e)

pub lacks_test : (b : ℕ) (xs : List ℕ) → has b xs ≡ false → Lacks b xs
lacks_test b (x ∷ xs) e zero h f = eqb-false x b (neither (eqb x b) (has b xs) e).0 f
lacks_test b (x ∷ xs) e (suc k) h f = lacks_test b xs (neither (eqb x b) (has b xs) e).1 k (omega arith) f
lacks_test b [] e k h f = omega arith

-- a text has one first cut, or none
same_cut : (b : ℕ) (p p' r r' : List ℕ) → Lacks b p → Lacks b p' → p ++ (b ∷ r) ≡ p' ++ (b ∷ r') → (p ≡ p') × (r ≡ r')
same_cut b [] [] r r' l l' e = (refl, (cc))
same_cut b [] (y ∷ p') r r' l l' e = absurd (l' 0 (omega arith) (cc))
same_cut b (x ∷ p) [] r r' l l' e = absurd (l 0 (omega arith) (cc))
same_cut b (x ∷ p) (y ∷ p') r r' l l' e =
    let t : p ++ (b ∷ r) ≡ p' ++ (b ∷ r') = cc in
    let i = same_cut b p p' r r' (lacks_tail b x p l) (lacks_tail b y p' l') t in
    ((cc i.0), i.1)

pub one_cut : (b : ℕ) (xs p p' r r' : List ℕ) → FirstCut b xs p r → FirstCut b xs p' r' → (p ≡ p') × (r ≡ r')
one_cut b xs p p' r r' n m = same_cut b p p' r r' n.first m.first (sym n.whole ∙ m.whole)

lacks_no : (b : ℕ) (p r : List ℕ) → Lacks b (p ++ (b ∷ r)) → ⊥
lacks_no b [] r l = l 0 (omega arith) refl
lacks_no b (x ∷ p) r l = lacks_no b p r (lacks_tail b x (p ++ (b ∷ r)) l)

pub no_cut : (b : ℕ) (xs p r : List ℕ) → Lacks b xs → FirstCut b xs p r → ⊥
no_cut b xs p r l n = lacks_no b p r (subst (Lacks b) n.whole l)
