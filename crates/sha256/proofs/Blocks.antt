-- Whole blocks and what is left over, the writes into the buffer, and what a fed and an ended hash mean.
use Rattle.std.proofs.Common.{◌≡◌, ℕ, zero, suc, ◌+◌, ◌-◌, ◌*◌, ◌/◌, ◌%◌, ◌^◌, ◌<◌, ◌≤◌, List, [], ◌∷◌, ◌++◌, length, take, drop, replicate, fold, sym, refl, ap, ◌∙◌, append_assoc, append-nil, ap₂, add-zero, zero-add, arith, length-append}
use native.Mathlib.Nat.{add-mul-mod_self_left}
use Rattle.std.specs.Simd.{first_chunks}
use Rattle.std.proofs.lemmas.List.{drop-append-le, drop-drop, drop_all, take_at, drop_at, length-drop, length-take-le, take-append-le}
use Rattle.std.proofs.lemmas.Slice.{take-put_mid}
use borrow.Rule.Slice.PartMut.{put_mid}
use Rattle.hashes.specs.BigEndian.{big_endian}
use Rattle.sha256.specs.Compression.{compressed}
use Rattle.sha256.specs.Padding.{zeros, padding}
use Rattle.sha256.specs.Message.{over, left, digest_of}
use Rattle.sha256.specs.Running.{pending, sha_from, Fed}
use Rattle.sha256.specs.declared.compression.State.{State}
use Rattle.sha256.specs.declared.running.Sha256.{Sha256}

blocks_split : (k j : ℕ) (s : State) (xs ys : List ℕ) → k * 64 ≤ length xs
    → fold compressed s (first_chunks 64 (k + j) (xs ++ ys)) ≡ fold compressed (fold compressed s (first_chunks 64 k xs)) (first_chunks 64 j (drop (k * 64) xs ++ ys))
blocks_split zero j s xs ys h = ap (λ n. fold compressed s (first_chunks 64 n (xs ++ ys))) (zero-add j)
blocks_split (suc k) j s xs ys h =
    let n : suc k + j ≡ suc (k + j) = omega arith in
    let l : 64 ≤ length xs = omega arith in
    let d : drop (k * 64) (drop 64 xs) ≡ drop (suc k * 64) xs = drop-drop (k * 64) 64 xs ∙ ap (λ i. drop i xs) (let e : 64 + k * 64 ≡ suc k * 64 = omega arith in e) in
    ap (λ m. fold compressed s (first_chunks 64 m (xs ++ ys))) n
    ∙ ap (λ b. fold compressed (compressed s b) (first_chunks 64 (k + j) (drop 64 (xs ++ ys)))) (take-append-le 64 xs ys l)
    ∙ ap (λ r. fold compressed (compressed s (take 64 xs)) (first_chunks 64 (k + j) r)) (drop-append-le 64 xs ys l)
    ∙ blocks_split k j (compressed s (take 64 xs)) (drop 64 xs) ys (let e = length-drop 64 xs in omega arith)
    ∙ ap (λ r. fold compressed (fold compressed (compressed s (take 64 xs)) (first_chunks 64 k (drop 64 xs))) (first_chunks 64 j (r ++ ys))) d

-- the whole blocks of two strings, one after the other
pub over-append : (s : State) (xs ys : List ℕ) → over s (xs ++ ys) ≡ over (over s xs) (left xs ++ ys)
unfolding over left
over-append s xs ys =
    let k : ℕ = length xs / 64 in
    let a = length-append xs ys in
    let b = length-append (drop (k * 64) xs) ys in
    let d = length-drop (k * 64) xs in
    let j : ℕ = length (drop (k * 64) xs ++ ys) / 64 in
    let n : length (xs ++ ys) / 64 ≡ k + j = omega arith in
    ap (λ m. fold compressed s (first_chunks 64 m (xs ++ ys))) n ∙ blocks_split k j s xs ys (omega arith)

pub over_short : (s : State) (xs : List ℕ) → length xs < 64 → over s xs ≡ s
unfolding over
over_short s xs h =
    let n : length xs / 64 ≡ 0 = omega arith in
    ap (λ m. fold compressed s (first_chunks 64 m xs)) n

pub left_short : (xs : List ℕ) → length xs < 64 → left xs ≡ xs
unfolding left
left_short xs h =
    let n : length xs / 64 * 64 ≡ 0 = omega arith in
    ap (λ m. drop m xs) n

pub over_block : (s : State) (p r : List ℕ) → length p ≡ 64 → over s (p ++ r) ≡ over (compressed s p) r
unfolding over
over_block s p r l =
    let a = length-append p r in
    let n : length (p ++ r) / 64 ≡ suc (length r / 64) = omega arith in
    ap (λ m. fold compressed s (first_chunks 64 m (p ++ r))) n
    ∙ ap (λ b. fold compressed (compressed s b) (first_chunks 64 (length r / 64) (drop 64 (p ++ r)))) (take_at p r 64 l)
    ∙ ap (λ q. fold compressed (compressed s p) (first_chunks 64 (length r / 64) q)) (drop_at p r 64 l)

pub left_block : (p r : List ℕ) → length p ≡ 64 → left (p ++ r) ≡ left r
unfolding left
left_block p r l =
    let a = length-append p r in
    let n : length (p ++ r) / 64 * 64 ≡ 64 + length r / 64 * 64 = omega arith in
    ap (λ m. drop m (p ++ r)) n ∙ sym (drop-drop (length r / 64 * 64) 64 (p ++ r)) ∙ ap (drop (length r / 64 * 64)) (drop_at p r 64 l)

pub padding_wraps : (t n k : ℕ) → padding ((t + n) % 2 ^ 64 + k) ≡ padding (t + (n + k))
unfolding padding
padding_wraps t n k =
    let a : ((t + n) % 2 ^ 64 + k) % 64 ≡ (t + (n + k)) % 64 = omega arith in
    let f : 8 * (t + (n + k)) ≡ 8 * ((t + n) % 2 ^ 64 + k) + 2 ^ 64 * (8 * ((t + n) / 2 ^ 64)) = omega arith in
    let b : 8 * ((t + n) % 2 ^ 64 + k) % 2 ^ 64 ≡ 8 * (t + (n + k)) % 2 ^ 64 =
    sym (ap (λ m. m % 2 ^ 64) f ∙ add-mul-mod_self_left (8 * ((t + n) % 2 ^ 64 + k)) (2 ^ 64) (8 * ((t + n) / 2 ^ 64))) in
    ap (λ m. 128 ∷ (replicate ((119 - m) % 64) 0 ++ big_endian 8 (8 * ((t + n) % 2 ^ 64 + k) % 2 ^ 64))) a
    ∙ ap (λ m. 128 ∷ (replicate (zeros (t + (n + k))) 0 ++ big_endian 8 m)) b

pub length-left : (xs : List ℕ) → length (left xs) ≡ length xs % 64
unfolding left
length-left xs = let e = length-drop (length xs / 64 * 64) xs in omega arith

-- a hash that is fed bytes, the first of them behind the `fill` that it holds back
module _ (h : Sha256) (b : List ℕ) (fill : ℕ) (w : length h.buffer ≡ 64) (f : fill ≡ h.total % 64) where
  held : pending h ≡ take fill h.buffer
  unfolding pending
  held = ap (λ i. take i h.buffer) (sym f)

  length-held : length (pending h) ≡ fill
  length-held = ap length held ∙ length-take-le fill h.buffer (omega arith)

  -- the bytes fill no block
  pub fed_short : (k : ℕ) (ys : List ℕ) → length b < 64 - fill → ys ≡ b
      → Fed h (record { state = h.state; buffer = put_mid fill k h.buffer ys; total = (h.total + length b) % 2 ^ 64 }) b
  unfolding pending
  fed_short k ys short e =
      let lp = length-held in
      let la = length-append (pending h) b in
      let ly = ap length e in
      let n : (h.total + length b) % 2 ^ 64 % 64 ≡ fill + length ys = omega arith in
      record {
        total = refl;
        state = sym (over_short h.state (pending h ++ b) (omega arith));
        rest = ap (λ i. take i (put_mid fill k h.buffer ys)) n
            ∙ take-put_mid fill k h.buffer ys (fill + length ys) refl (omega arith)
            ∙ ap₂ (λ x y. x ++ y) (sym held) e
            ∙ sym (left_short (pending h ++ b) (omega arith));
      }

  -- they fill the block that was begun
  pub fed_long : (j : ℕ) (head rest zs ys : List ℕ) (s t : State) → b ≡ head ++ rest → length head ≡ 64 - fill → zs ≡ head
      → s ≡ compressed h.state (put_mid fill (64 - fill) h.buffer zs) → t ≡ over s rest → ys ≡ left rest
      → Fed h (record { state = t; buffer = put_mid 0 j (put_mid fill (64 - fill) h.buffer zs) ys; total = (h.total + length b) % 2 ^ 64 }) b
  unfolding pending
  fed_long j head rest zs ys s t cut l ez es et ey =
      let block : List ℕ = put_mid fill (64 - fill) h.buffer zs in
      let end : drop (64 - fill) (drop fill h.buffer) ≡ [] = drop_all (64 - fill) (drop fill h.buffer) (let d = length-drop fill h.buffer in omega arith) in
      let whole : block ≡ pending h ++ head =
      ap (λ r. take fill h.buffer ++ (zs ++ r)) end ∙ ap (λ r. take fill h.buffer ++ r) (append-nil zs) ∙ ap₂ (λ x y. x ++ y) (sym held) ez in
      let lp = length-held in
      let long : length block ≡ 64 = ap length whole ∙ (let a = length-append (pending h) head in omega arith) in
      let joined : pending h ++ b ≡ block ++ rest = (let a = append_assoc (pending h) head rest in cc) in
      let lr = length-left rest in
      let ly = ap length ey in
      let lb = ap length cut in
      let lc = length-append head rest in
      let n : (h.total + length b) % 2 ^ 64 % 64 ≡ 0 + length ys = omega arith in
      record {
        total = refl;
        state = et ∙ ap (λ u. over u rest) es ∙ sym (over_block h.state block rest long) ∙ ap (over h.state) (sym joined);
        rest = ap (λ i. take i (put_mid 0 j block ys)) n
            ∙ take-put_mid 0 j block ys (0 + length ys) refl (omega arith)
            ∙ ey
            ∙ sym (ap left joined ∙ left_block block rest long);
      }

-- bytes hashed in two goes
over_twice : (s : State) (p b r : List ℕ) → over s (p ++ (b ++ r)) ≡ over (over s (p ++ b)) (left (p ++ b) ++ r)
over_twice s p b r = ap (over s) (sym (append_assoc p b r)) ∙ over-append s (p ++ b) r

-- what a hash means that was fed b
pub fed_means : (h g : Sha256) (b rest : List ℕ) → Fed h g b → sha_from g rest ≡ sha_from h (b ++ rest)
unfolding sha_from
fed_means h g b rest fed =
    let z : padding (g.total + length rest) ≡ padding (h.total + length (b ++ rest)) =
    ap (λ m. padding (m + length rest)) fed.total ∙ padding_wraps h.total (length b) (length rest) ∙ ap (λ m. padding (h.total + m)) (sym (length-append b rest)) in
    let y : List ℕ = padding (h.total + length (b ++ rest)) in
    let o = over_twice h.state (pending h) b (rest ++ y) in
    let a = append_assoc b rest y in
    let s = fed.state in
    let p = fed.rest in
    cc

-- the digest of a hash that was fed its padding
pub ended_means : (h h1 h2 h3 : Sha256) (zs bits : List ℕ) → Fed h h1 (128 ∷ []) → Fed h1 h2 zs → Fed h2 h3 bits
    → zs ≡ replicate (zeros h.total) 0 → bits ≡ big_endian 8 (8 * h.total % 2 ^ 64)
    → digest_of h3.state ≡ sha_from h []
unfolding sha_from padding
ended_means h h1 h2 h3 zs bits f1 f2 f3 ez eb =
    let o1 = over_twice h.state (pending h) (128 ∷ []) (zs ++ bits) in
    let o2 = over_twice h1.state (pending h1) zs bits in
    let s1 = f1.state in
    let s2 = f2.state in
    let s3 = f3.state in
    let p1 = f1.rest in
    let p2 = f2.rest in
    let all : h3.state ≡ over h.state (pending h ++ (128 ∷ (zs ++ bits))) = cc in
    ap digest_of all
    ∙ ap₂ (λ x y. digest_of (over h.state (pending h ++ (128 ∷ (x ++ y))))) ez eb
    ∙ ap (λ n. digest_of (over h.state (pending h ++ padding n))) (sym (add-zero h.total))
