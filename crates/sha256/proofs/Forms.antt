-- Ch and Maj in fewer operations, and one round with its sums in the order of the code.
use Rattle.std.proofs.Common.{◌≡◌, ℕ, zero, suc, ◌+◌, ◌-◌, ◌/◌, ◌%◌, ◌^◌, ◌<◌, sym, refl, ap, ◌∙◌, ap₂, mod-lt, zero-lt-suc, pow-suc, arith}
use lib.Bits.{bit_and, bit_xor, and_shr, xor_shr, and_mod, xor_mod}
use Rattle.sha256.specs.Words.{plus, ch, maj, Σ0, Σ1}
use Rattle.sha256.specs.Compression.{t_1, t_2, round}
use Rattle.sha256.specs.declared.compression.State.{State}

-- a formula over the bits of three words
data Form : Type 0 where
  X : Form
  Y : Form
  Z : Form
  not_x : Form
  and : Form → Form → Form
  xor : Form → Form → Form

-- its value at words of n bits
abbrev value : ℕ → Form → ℕ → ℕ → ℕ → ℕ
value n X x y z = x
value n Y x y z = y
value n Z x y z = z
value n not_x x y z = 2 ^ n - 1 - x
value n (and f g) x y z = bit_and (value n f x y z) (value n g x y z)
value n (xor f g) x y z = bit_xor (value n f x y z) (value n g x y z)

-- all but the lowest bit
high : (n : ℕ) (f : Form) (x y z : ℕ) → value (suc n) f x y z / 2 ≡ value n f (x / 2) (y / 2) (z / 2)
high n X x y z = refl
high n Y x y z = refl
high n Z x y z = refl
high n not_x x y z = let p = pow-suc 2 n in omega arith
high n (and f g) x y z = and_shr (value (suc n) f x y z) (value (suc n) g x y z) 1 ∙ ap₂ bit_and (high n f x y z) (high n g x y z)
high n (xor f g) x y z = xor_shr (value (suc n) f x y z) (value (suc n) g x y z) 1 ∙ ap₂ bit_xor (high n f x y z) (high n g x y z)

-- the lowest bit
low : (n : ℕ) (f : Form) (x y z : ℕ) → x < 2 ^ suc n → value (suc n) f x y z % 2 ≡ value 1 f (x % 2) (y % 2) (z % 2)
low n X x y z h = refl
low n Y x y z h = refl
low n Z x y z h = refl
low n not_x x y z h = let p = pow-suc 2 n in omega arith
low n (and f g) x y z h = and_mod (value (suc n) f x y z) (value (suc n) g x y z) 1 ∙ ap₂ bit_and (low n f x y z h) (low n g x y z h)
low n (xor f g) x y z h = xor_mod (value (suc n) f x y z) (value (suc n) g x y z) 1 ∙ ap₂ bit_xor (low n f x y z h) (low n g x y z h)

none : (f : Form) → value 0 f 0 0 0 ≡ 0
none X = refl
none Y = refl
none Z = refl
none not_x = refl
none (and f g) = ap₂ bit_and (none f) (none g)
none (xor f g) = ap₂ bit_xor (none f) (none g)

by_bits : (a b : ℕ) → a / 2 ≡ b / 2 → a % 2 ≡ b % 2 → a ≡ b
by_bits a b hi lo = omega arith

below_2 : (x : ℕ) → x % 2 < 2
below_2 x = mod-lt x (zero-lt-suc 1)

-- two formulas that agree on single bits agree on words
agree : (f g : Form) → ((x y z : ℕ) → x < 2 → y < 2 → z < 2 → value 1 f x y z ≡ value 1 g x y z)
    → (n x y z : ℕ) → x < 2 ^ n → y < 2 ^ n → z < 2 ^ n → value n f x y z ≡ value n g x y z
agree f g bit zero x y z hx hy hz =
    let ex : x ≡ 0 = omega arith in
    let ey : y ≡ 0 = omega arith in
    let ez : z ≡ 0 = omega arith in
    rw (ez, ey, ex) (none f ∙ sym (none g))
agree f g bit (suc n) x y z hx hy hz =
    let p = pow-suc 2 n in
    by_bits (value (suc n) f x y z) (value (suc n) g x y z)
    (high n f x y z ∙ agree f g bit n (x / 2) (y / 2) (z / 2) (omega arith) (omega arith) (omega arith) ∙ sym (high n g x y z))
    (low n f x y z hx ∙ bit (x % 2) (y % 2) (z % 2) (below_2 x) (below_2 y) (below_2 z) ∙ sym (low n g x y z hx))

two : (P : ℕ → Type 0) → P 0 → P 1 → (n : ℕ) → n < 2 → P n
two P p q zero h = p
two P p q (suc zero) h = q
two P p q (suc (suc n)) h = absurd (omega arith)

-- a fact of the eight cases is a fact of every three bits
eight : (P : ℕ → ℕ → ℕ → Type 0) → P 0 0 0 → P 0 0 1 → P 0 1 0 → P 0 1 1 → P 1 0 0 → P 1 0 1 → P 1 1 0 → P 1 1 1
    → (x y z : ℕ) → x < 2 → y < 2 → z < 2 → P x y z
eight P a b c d e f g h x y z hx hy hz =
    two (λ u. P u y z) (two (λ v. P 0 v z) (two (P 0 0) a b z hz) (two (P 0 1) c d z hz) y hy) (two (λ v. P 1 v z) (two (P 1 0) e f z hz) (two (P 1 1) g h z hz) y hy) x hx

pub ch_is : (x y z : ℕ) → x < 2 ^ 32 → y < 2 ^ 32 → z < 2 ^ 32 → bit_xor z (bit_and x (bit_xor y z)) ≡ ch x y z
unfolding ch
ch_is =
    let f : Form = xor Z (and X (xor Y Z)) in
    let g : Form = xor (and X Y) (and not_x Z) in
    agree f g (eight (λ x y z. value 1 f x y z ≡ value 1 g x y z) refl refl refl refl refl refl refl refl) 32

pub maj_is : (x y z : ℕ) → x < 2 ^ 32 → y < 2 ^ 32 → z < 2 ^ 32 → bit_xor y (bit_and (bit_xor x y) (bit_xor y z)) ≡ maj x y z
unfolding maj
maj_is =
    let f : Form = xor Y (and (xor X Y) (xor Y Z)) in
    let g : Form = xor (xor (and X Y) (and X Z)) (and Y Z) in
    agree f g (eight (λ x y z. value 1 f x y z ≡ value 1 g x y z) refl refl refl refl refl refl refl refl) 32

one_modulus : (a b c d e : ℕ) → ((((a + b) % 2 ^ 32 + c) % 2 ^ 32 + d) % 2 ^ 32 + e) % 2 ^ 32 ≡ (a + b + c + d + e) % 2 ^ 32
one_modulus a b c d e = omega arith

add_order : (h s c k w : ℕ) → ((((w + k) % 2 ^ 32 + h) % 2 ^ 32 + c) % 2 ^ 32 + s) % 2 ^ 32 ≡ ((((h + s) % 2 ^ 32 + c) % 2 ^ 32 + k) % 2 ^ 32 + w) % 2 ^ 32
add_order h s c k w =
    one_modulus w k h c s ∙ ap (λ n. n % 2 ^ 32) (let e : w + k + h + c + s ≡ h + s + c + k + w = omega arith in e) ∙ sym (one_modulus h s c k w)

-- the working variables that a round makes from its two sums
abbrev stepped : State → ℕ → ℕ → State
stepped s t1 t2 = record { a = plus t1 t2; b = s.a; c = s.b; d = s.c; e = plus s.d t1; f = s.e; g = s.f; h = s.g }

pub round_is : (s : State) (k w kw c1 s1 s0 m : ℕ) → kw ≡ plus w k → c1 ≡ ch s.e s.f s.g → s1 ≡ Σ1 s.e → s0 ≡ Σ0 s.a → m ≡ maj s.a s.b s.c
    → stepped s (plus (plus (plus kw s.h) c1) s1) (plus s0 m) ≡ round s k w
unfolding round t_1 t_2
round_is s k w kw c1 s1 s0 m ek ec e1 e0 em =
    let t1 : plus (plus (plus kw s.h) c1) s1 ≡ t_1 s k w =
    ap (λ x. plus (plus (plus x s.h) c1) s1) ek
    ∙ ap₂ (λ x y. plus (plus (plus (plus w k) s.h) x) y) ec e1
    ∙ add_order s.h (Σ1 s.e) (ch s.e s.f s.g) k w in
    ap₂ (stepped s) t1 (ap₂ plus e0 em)
