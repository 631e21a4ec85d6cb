-- The constants are the standard's: one test over each table, which antt computes.
use Rattle.std.proofs.Common.{◌≡◌, ℕ, zero, suc, ◌+◌, ◌*◌, ◌%◌, ◌^◌, ◌<◌, Bool, true, false, cond, ◌&&◌, eqb, ltb, leb, List, [], ◌∷◌, length, get_or, refl, arith}
use Rattle.std.proofs.lemmas.Bool.{and_parts, leb-true, ltb-true, eqb-true}
use Rattle.sha256.specs.Compression.{constants}
use Rattle.sha256.specs.Roots.{primes, RootBits, initial_words, InitialLaw, ConstantsLaw}

-- how many of 1 to n have an e-th power of at most p
abbrev whole : ℕ → ℕ → ℕ → ℕ
whole e p zero = 0
whole e p (suc n) = cond (leb (suc n ^ e) p) (whole e p n + 1) (whole e p n)

-- the word w is made from the e-th root of p
abbrev made : ℕ → ℕ → ℕ → Bool
made e p w =
    let root : ℕ = whole e p 17 * 2 ^ 32 + w in
    leb (root ^ e) (p * 2 ^ (32 * e)) && (ltb (p * 2 ^ (32 * e)) ((root + 1) ^ e) && eqb w (root % 2 ^ 32))

abbrev all_made : ℕ → List ℕ → List ℕ → Bool
all_made e ps [] = true
all_made e [] (w ∷ ws) = false
all_made e (p ∷ ps) (w ∷ ws) = made e p w && all_made e ps ws

one_made : (e p w : ℕ) → made e p w ≡ true → RootBits e p w
one_made e p w t =
    let root : ℕ = whole e p 17 * 2 ^ 32 + w in
    let scaled : ℕ = p * 2 ^ (32 * e) in
    let parts = and_parts (leb (root ^ e) scaled) (ltb scaled ((root + 1) ^ e) && eqb w (root % 2 ^ 32)) t in
    let rest = and_parts (ltb scaled ((root + 1) ^ e)) (eqb w (root % 2 ^ 32)) parts.1 in
    record {
      root = root;
      low = leb-true (root ^ e) scaled parts.0;
      high = ltb-true scaled ((root + 1) ^ e) rest.0;
      bits = eqb-true w (root % 2 ^ 32) rest.1;
    }

each_made : (e : ℕ) (ps ws : List ℕ) → all_made e ps ws ≡ true → (t : ℕ) → t < length ws → RootBits e (get_or ps t 0) (get_or ws t 0)
each_made e ps [] h t l = absurd (omega arith)
each_made e [] (w ∷ ws) h t l = let z : ◌≡◌ {A = ℕ} 0 1 = cc in absurd (omega arith)
each_made e (p ∷ ps) (w ∷ ws) h zero l = one_made e p w (and_parts (made e p w) _ h).0
each_made e (p ∷ ps) (w ∷ ws) h (suc t) l = each_made e ps ws (and_parts (made e p w) _ h).1 t (omega arith)

pub initial_law : InitialLaw
unfolding primes
initial_law = each_made 2 primes initial_words refl

pub constants_law : ConstantsLaw
unfolding primes constants
constants_law = (refl, refl, each_made 3 primes constants refl)
