-- Each message has one padding (padding_law), one cut into blocks (blocks_law) and one list of hash values (chain_law).
use Rattle.std.proofs.Common.{◌≡◌, ℕ, zero, suc, ◌+◌, ◌*◌, ◌/◌, ◌%◌, ◌^◌, ◌<◌, List, [], ◌∷◌, ◌++◌, length, take, drop, replicate, sym, refl, ap, ◌∙◌, mod-lt, zero-lt-suc, pow-suc, arith, lit<, length-append, pow-add}
use native.Mathlib.Nat.{div-div-eq-div-mul}
use lib.ListN.{length-replicate}
use Rattle.hashes.specs.BigEndian.{big_endian}
use Rattle.std.specs.Simd.{first_chunks}
use Rattle.std.proofs.lemmas.List.{length-take-le, length-drop, take-append-drop, take_at, drop_at}
use Rattle.std.specs.List.{concat, AllByRecursion}
use Rattle.std.proofs.ByRecursion.{All-append}
use Rattle.hashes.proofs.Steps.{one_trace}
use Rattle.sha256.specs.Compression.{compressed}
use Rattle.sha256.specs.Message.{BlocksLaw, ChainLaw, Parsed, blocks, initial, over}
use Rattle.sha256.specs.Padding.{zeros, padding, padded, bits, binary, PaddedBytes, PaddedBits, PaddingLaw}

pub length-bits : (bytes : List ℕ) → length (bits bytes) ≡ 8 * length bytes
length-bits [] = refl
length-bits (b ∷ bs) = let e = length-bits bs in omega arith

bits-append : (xs ys : List ℕ) → bits (xs ++ ys) ≡ bits xs ++ bits ys
bits-append [] ys = refl
bits-append (x ∷ xs) ys =
    ap (λ r. (x / 128 % 2) ∷ (x / 64 % 2) ∷ (x / 32 % 2) ∷ (x / 16 % 2) ∷ (x / 8 % 2) ∷ (x / 4 % 2) ∷ (x / 2 % 2) ∷ (x % 2) ∷ r) (bits-append xs ys)

eight_more : (n : ℕ) → 8 * suc n ≡ suc (suc (suc (suc (suc (suc (suc (suc (8 * n))))))))
eight_more n = omega arith

bits_zeros : (n : ℕ) → bits (replicate n 0) ≡ replicate (8 * n) 0
bits_zeros zero = refl
bits_zeros (suc n) = ap (λ r. 0 ∷ 0 ∷ 0 ∷ 0 ∷ 0 ∷ 0 ∷ 0 ∷ 0 ∷ r) (bits_zeros n) ∙ ap (λ m. replicate m 0) (sym (eight_more n))

-- the bit j of what is left of x above its lowest k bits
bit : (x k j i : ℕ) → i ≡ k + j → x / 2 ^ k / 2 ^ j % 2 ≡ x / 2 ^ i % 2
bit x k j i e = ap (λ q. q % 2) (div-div-eq-div-mul x (2 ^ k) (2 ^ j) ∙ ap (λ p. x / p) (sym (pow-add 2 k j) ∙ ap (λ n. 2 ^ n) (sym e)))

bytes_pow : (n : ℕ) → 256 ^ n ≡ 2 ^ (8 * n)
bytes_pow zero = refl
bytes_pow (suc n) =
    pow-suc 256 n ∙ ap (λ p. p * 256) (bytes_pow n) ∙ sym (pow-add 2 (8 * n) 8) ∙ ap (λ m. 2 ^ m) (let e : 8 * n + 8 ≡ 8 * suc n = omega arith in e)

bits-big_endian : (n x : ℕ) → bits (big_endian n x) ≡ binary (8 * n) x
bits-big_endian zero x = refl
bits-big_endian (suc n) x =
    let k : ℕ = 8 * n in
    let y : ℕ = x / 2 ^ k in
    let d : x / 256 ^ n % 256 ≡ y % 256 = ap (λ p. x / p % 256) (bytes_pow n) in
    let low_bit : (j i : ℕ) → y % 256 / 2 ^ j % 2 ≡ y / 2 ^ j % 2 → i ≡ k + j → y % 256 / 2 ^ j % 2 ≡ x / 2 ^ i % 2 = λ j i e h. e ∙ bit x k j i h in
    let b7 : y % 256 / 128 % 2 ≡ x / 2 ^ (suc (suc (suc (suc (suc (suc (suc (k)))))))) % 2 = low_bit 7 _ (omega arith) (omega arith) in
    let b6 : y % 256 / 64 % 2 ≡ x / 2 ^ (suc (suc (suc (suc (suc (suc (k))))))) % 2 = low_bit 6 _ (omega arith) (omega arith) in
    let b5 : y % 256 / 32 % 2 ≡ x / 2 ^ (suc (suc (suc (suc (suc (k)))))) % 2 = low_bit 5 _ (omega arith) (omega arith) in
    let b4 : y % 256 / 16 % 2 ≡ x / 2 ^ (suc (suc (suc (suc (k))))) % 2 = low_bit 4 _ (omega arith) (omega arith) in
    let b3 : y % 256 / 8 % 2 ≡ x / 2 ^ (suc (suc (suc (k)))) % 2 = low_bit 3 _ (omega arith) (omega arith) in
    let b2 : y % 256 / 4 % 2 ≡ x / 2 ^ (suc (suc (k))) % 2 = low_bit 2 _ (omega arith) (omega arith) in
    let b1 : y % 256 / 2 % 2 ≡ x / 2 ^ (suc (k)) % 2 = low_bit 1 _ (omega arith) (omega arith) in
    let b0 : y % 256 % 2 ≡ y % 2 = omega arith in
    let r = bits-big_endian n x in
    let e : bits ((y % 256) ∷ big_endian n x) ≡ binary (suc (suc (suc (suc (suc (suc (suc (suc k)))))))) x = cc in
    ap (λ v. bits (v ∷ big_endian n x)) d ∙ e ∙ ap (λ m. binary m x) (sym (eight_more n))

-- how long a message of n bytes is with z zero bytes
length_parts : (message : List ℕ) (z x : ℕ) → length (message ++ (128 ∷ (replicate z 0 ++ big_endian 8 x))) ≡ length message + z + 9
length_parts message z x =
    let a = length-append message (128 ∷ (replicate z 0 ++ big_endian 8 x)) in
    let b = length-append (replicate z 0) (big_endian 8 x) in
    let c : length (replicate {A = ℕ} z 0) ≡ z = length-replicate z 0 in
    omega arith

-- the bits of the mark, of z zero bytes and of a count
bits_parts : (z x : ℕ) → bits (128 ∷ (replicate z 0 ++ big_endian 8 x)) ≡ 1 ∷ (replicate (8 * z + 7) 0 ++ binary 64 x)
bits_parts z x =
    let e : 8 * z + 7 ≡ suc (suc (suc (suc (suc (suc (suc (8 * z))))))) = omega arith in
    ap (λ r. 1 ∷ 0 ∷ 0 ∷ 0 ∷ 0 ∷ 0 ∷ 0 ∷ 0 ∷ r) (bits-append (replicate z 0) (big_endian 8 x) ∙ ap (λ r. r ++ bits (big_endian 8 x)) (bits_zeros z) ∙ ap (λ r. replicate (8 * z) 0 ++ r) (bits-big_endian 8 x))
    ∙ ap (λ m. 1 ∷ (replicate m 0 ++ binary 64 x)) (sym e)

abbrev Byte : ℕ → Type 0
Byte b = b < 256

-- bytes are known by their bits
bits_inj : (xs ys : List ℕ) → AllByRecursion Byte xs → AllByRecursion Byte ys → bits xs ≡ bits ys → xs ≡ ys
bits_inj [] [] p q e = refl
bits_inj [] (c ∷ cs) p q e = let l = ap length e in absurd (omega arith)
bits_inj (b ∷ bs) [] p q e = let l = ap length e in absurd (omega arith)
bits_inj (b ∷ bs) (c ∷ cs) p q e =
    let e7 : b / 128 % 2 ≡ c / 128 % 2 = cc in
    let e6 : b / 64 % 2 ≡ c / 64 % 2 = cc in
    let e5 : b / 32 % 2 ≡ c / 32 % 2 = cc in
    let e4 : b / 16 % 2 ≡ c / 16 % 2 = cc in
    let e3 : b / 8 % 2 ≡ c / 8 % 2 = cc in
    let e2 : b / 4 % 2 ≡ c / 4 % 2 = cc in
    let e1 : b / 2 % 2 ≡ c / 2 % 2 = cc in
    let e0 : b % 2 ≡ c % 2 = cc in
    let r : bits bs ≡ bits cs = cc in
    let hb : b < 256 = p.0 in
    let hc : c < 256 = q.0 in
    let same : b ≡ c = omega arith in
    ap (λ x. x ∷ bs) same ∙ ap (λ rest. c ∷ rest) (bits_inj bs cs p.1 q.1 r)

all_zeros : (n : ℕ) → AllByRecursion Byte (replicate n 0)
all_zeros zero = tt
all_zeros (suc n) = (lit< tt, all_zeros n)

all_big_endian : (n x : ℕ) → AllByRecursion Byte (big_endian n x)
all_big_endian zero x = tt
all_big_endian (suc n) x = (mod-lt (x / 256 ^ n) (zero-lt-suc 255), all_big_endian n x)

padded_bytes : (message : List ℕ) → PaddedBytes message (padded message)
unfolding padded padding
padded_bytes message =
    let n : ℕ = length message in
    let z : ℕ = zeros n in
    record {
      zero_bytes = z;
      few = omega arith;
      parts = refl;
      whole = (let l = length_parts message z (8 * n % 2 ^ 64) in omega arith);
    }

padded_bits : (message : List ℕ) → PaddedBits message (padded message)
unfolding padded padding
padded_bits message =
    let n : ℕ = length message in
    let z : ℕ = zeros n in
    let few : z < 64 = omega arith in
    let lb = length-bits message in
    record {
      k = 8 * z + 7;
      least = omega arith;
      fills = omega arith;
      parts = bits-append message (padding n)
          ∙ ap (λ r. bits message ++ r) (bits_parts z (8 * n % 2 ^ 64))
          ∙ ap (λ b. bits message ++ (1 ∷ (replicate (8 * z + 7) 0 ++ binary 64 (b % 2 ^ 64)))) (sym lb);
    }

only_bytes : (message p : List ℕ) → PaddedBytes message p → p ≡ padded message
unfolding padded padding
only_bytes message p q =
    let n : ℕ = length message in
    let l = length_parts message q.zero_bytes (8 * n % 2 ^ 64) in
    let w = ap length q.parts in
    let h = q.whole in
    let f = q.few in
    let same : q.zero_bytes ≡ zeros n = omega arith in
    q.parts ∙ ap (λ k. message ++ (128 ∷ (replicate k 0 ++ big_endian 8 (8 * n % 2 ^ 64)))) same

all_padded : (message : List ℕ) → AllByRecursion Byte message → AllByRecursion Byte (padded message)
unfolding padded padding
all_padded message all =
    let n : ℕ = length message in
    All-append Byte message (padding n) all
    (lit< tt, All-append Byte (replicate (zeros n) 0) (big_endian 8 (8 * n % 2 ^ 64)) (all_zeros (zeros n)) (all_big_endian 8 (8 * n % 2 ^ 64)))

only_bits : (message p : List ℕ) → AllByRecursion Byte message → AllByRecursion Byte p → PaddedBits message p → p ≡ padded message
only_bits message p all bytes q =
    let r = padded_bits message in
    let m : ℕ = length (bits message) in
    let f = q.fills in
    let g = r.fills in
    let lf = q.least in
    let lg = r.least in
    let same : q.k ≡ r.k = omega arith in
    bits_inj p (padded message) bytes (all_padded message all)
    (q.parts ∙ ap (λ k. bits message ++ (1 ∷ (replicate k 0 ++ binary 64 (m % 2 ^ 64)))) same ∙ sym r.parts)

pub padding_law : PaddingLaw
padding_law message = (padded_bytes message, padded_bits message, only_bytes message, λ all p. only_bits message p all)

parsed : (k : ℕ) (xs : List ℕ) → length xs ≡ k * 64 → Parsed xs (first_chunks 64 k xs)
parsed zero [] e = record { whole = refl; each = tt }
parsed zero (x ∷ xs) e = absurd (omega arith)
parsed (suc k) xs e =
    let l : length (take 64 xs) ≡ 64 = length-take-le 64 xs (omega arith) in
    let rest = parsed k (drop 64 xs) (let d = length-drop 64 xs in omega arith) in
    record { whole = ap (λ r. take 64 xs ++ r) rest.whole ∙ take-append-drop 64 xs; each = (l, rest.each) }

same_parse : (bs cs : List (List ℕ)) → AllByRecursion (λ b. length b ≡ 64) bs → AllByRecursion (λ b. length b ≡ 64) cs → concat bs ≡ concat cs → bs ≡ cs
same_parse [] [] p q e = refl
same_parse [] (c ∷ cs) p q e = let l = ap length e in let a = length-append c (concat cs) in let h : length c ≡ 64 = q.0 in absurd (omega arith)
same_parse (b ∷ bs) [] p q e = let l = ap length e in let a = length-append b (concat bs) in let h : length b ≡ 64 = p.0 in absurd (omega arith)
same_parse (b ∷ bs) (c ∷ cs) p q e =
    let head : b ≡ c = sym (take_at b (concat bs) 64 p.0) ∙ ap (take 64) e ∙ take_at c (concat cs) 64 q.0 in
    let rest : concat bs ≡ concat cs = sym (drop_at b (concat bs) 64 p.0) ∙ ap (drop 64) e ∙ drop_at c (concat cs) 64 q.0 in
    ap (λ x. x ∷ bs) head ∙ ap (λ r. c ∷ r) (same_parse bs cs p.1 q.1 rest)

pub blocks_law : BlocksLaw
blocks_law message =
    let p : List ℕ = padded message in
    let w = (padded_bytes message).whole in
    let mine = parsed (length p / 64) p (omega arith) in
    (mine, λ bs q. same_parse bs (blocks p) q.each mine.each (q.whole ∙ sym mine.whole))

pub chain_law : ChainLaw
unfolding over
chain_law message = one_trace compressed initial (blocks (padded message))
