use Rattle.std.proofs.Common.{◌≡◌, ℕ, zero, suc, ◌+◌, ◌-◌, ◌*◌, ◌^◌, ◌<◌, ◌≤◌, List, length, get_or, take, decimal, sym, refl, ap, ◌∙◌, subst, add-one, arith, rules}
use native.Mathlib.Nat.{pow-le-pow_right}
use Rattle.std.proofs.Math.Nat.{pow-suc}
use Rattle.std.specs.Str.Parse.{digits_value, AllDigits}
use Rattle.std.specs.Char.{digit_value}
use Rattle.std.proofs.lemmas.Int.Digits.{digits_value_more, digits_more, digits_value-lt}
use Rattle.std.proofs.lemmas.List.{length-take-le, take_all}
use Rattle.std.proofs.lemmas.Str.Parse.{numerals_by_value, tells_digits, digit_at, IsNumeralModel, digits_value_short}
use Rattle.std.proofs.lemmas.Fmt.{decimal-digits_value, decimal_digit, length-decimal-le, decimal_nonempty, first_decimal, digits_decimal, digits_value-decimal}
use Rattle.texts.specs.Cuts.{Lacks}
use Rattle.texts.specs.Numbers.{Numeral}

own : IsNumeralModel (AllDigits 10) (digits_value 10)
own = numerals_by_value _ tells_digits

value_of_digit : (b d : ℕ) → d < 10 → b ≡ 48 + d → digit_value b ≡ d
value_of_digit b d h e = search rules

-- what is read of the first i bytes of s
pub record Read (s : List ℕ) (i n : ℕ) : Type 0 where
  pub worth : n ≡ digits_value 10 (take i s)
  pub digits : AllDigits 10 (take i s)
  pub bound : n < 10 ^ i

-- one digit more still fits 64 bits
pub room : (s : List ℕ) (i n : ℕ) → i < 19 → Read s i n → n < 10 ^ 18
room s i n h r =
    let p : 10 ^ i ≤ 10 ^ 18 = pow-le-pow_right {n = 10} (omega arith) {i = i} {j = 18} (omega arith) in
    omega (arith, r.bound)

pub next : (s : List ℕ) (i n d : ℕ) → i < length s → d < 10 → get_or s i 0 ≡ 48 + d → Read s i n → Read s (i + 1) (n * 10 + d)
next s i n d l h e r =
    let g = value_of_digit (get_or s i 0) d h e in
    let more : n * 10 + d ≡ digits_value 10 (take (i + 1) s) = omega (arith, digits_value_more 10 s i l, r.worth) in
    let all : AllDigits 10 (take (i + 1) s) = digits_more 10 s i l r.digits (omega arith) in
    let len : length (take (i + 1) s) ≡ i + 1 = length-take-le (i + 1) s (omega arith) in
    let low : digits_value 10 (take (i + 1) s) < 10 ^ (i + 1) = subst (λ (k : ℕ). digits_value 10 (take (i + 1) s) < 10 ^ k) len (digits_value-lt 10 _ all) in
    record { worth = more; digits = all; bound = omega arith }

pub last : (most i n : ℕ) (s : List ℕ) → length s ≤ i → Read s i n → 0 < length s → length s ≤ most → length s ≤ 19 → (get_or s 0 0 ≡ 48 → length s ≡ 1)
    → Numeral most n s
last most i n s l r some few short lead =
    let e = take_all i s l in
    let v : n ≡ digits_value 10 s = r.worth ∙ ap (digits_value 10) e in
    let ds : AllDigits 10 s = subst (AllDigits 10) e r.digits in
    let low : digits_value 10 s < 10 ^ 19 = digits_value_short own s 19 ds short in
    record { few = few; small = omega arith; written = sym (ap decimal v ∙ decimal-digits_value own s ds some lead (omega arith)) }

leads : (n : ℕ) → n < 10 ^ 19 → get_or (decimal n) 0 0 ≡ 48 → length (decimal n) ≡ 1
leads zero h e = ap length (decimal_digit 0 (omega arith))
leads (suc n) h e = absurd (omega (arith, first_decimal (suc n) (omega arith) (omega arith)))

-- what a number looks like
pub record Looks (most : ℕ) (s : List ℕ) : Type 0 where
  pub some : 0 < length s
  pub few : length s ≤ most
  pub short : length s ≤ 19
  pub lead : get_or s 0 0 ≡ 48 → length s ≡ 1
  pub digits : AllDigits 10 s

pub looks : (most n : ℕ) (s : List ℕ) → Numeral most n s → Looks most s
looks most n s w =
    let back = λ (P : List ℕ → Type 0) (p : P (decimal n)). subst P (sym w.written) p in
    record {
      some = back (λ z. 0 < length z) (decimal_nonempty n (omega (arith, w.small)));
      few = w.few;
      short = back (λ z. length z ≤ 19) (length-decimal-le 19 n (omega arith) w.small (omega (arith, w.small)));
      lead = back (λ z. get_or z 0 0 ≡ 48 → length z ≡ 1) (leads n w.small);
      digits = back (AllDigits 10) (digits_decimal own n (omega (arith, w.small)));
    }

pub no_digit : (most : ℕ) (s : List ℕ) (i : ℕ) → i < length s → ((d : ℕ) → d < 10 → get_or s i 0 ≡ 48 + d → ⊥) → (n : ℕ) → Numeral most n s → ⊥
no_digit most s i l none n w =
    let h = digit_at s i (looks most n s w).digits l in
    none (get_or s i 0 - 48) (omega arith) (omega arith)

-- at most so many digits: below that power of ten
pub below : (most n : ℕ) (s : List ℕ) → Numeral most n s → n < 10 ^ most
below most n s w =
    let v : digits_value 10 (decimal n) ≡ n = digits_value-decimal own n (omega (arith, w.small)) in
    let e : digits_value 10 s ≡ n = ap (digits_value 10) w.written ∙ v in
    let b : digits_value 10 s < 10 ^ most = digits_value_short own s most (looks most n s w).digits w.few in
    omega arith

-- so its digits are one more than its logarithm
pub length_by_power : (n k : ℕ) → n < 2 ^ 64 → 10 ^ k ≤ n → n < 10 * 10 ^ k → length (decimal n) ≡ k + 1
length_by_power n k fits low high =
    let small : n < 10 ^ (k + 1) = rw (add-one, pow-suc 10 k) (omega arith) in
    let most : length (decimal n) ≤ k + 1 = length-decimal-le (k + 1) n (omega arith) small fits in
    let few : length (decimal n) ≤ k → n < 10 ^ k = λ l. omega (arith, digits_value-decimal own n fits, digits_value_short own (decimal n) k (digits_decimal own n fits) l) in
    grind (arith, few)

pub numeral_of : (most n : ℕ) → 0 < most → n < 10 ^ most → n < 10 ^ 19 → Numeral most n (decimal n)
numeral_of most n some h small = record { few = length-decimal-le most n some h (omega arith); small = small; written = refl }

-- no mark below the digits stands in a number
pub numeral_lacks : (b most n : ℕ) (s : List ℕ) → b < 48 → Numeral most n s → Lacks b s
numeral_lacks b most n s l w k h e = let d = digit_at s k (looks most n s w).digits h in omega arith
