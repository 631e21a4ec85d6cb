-- Runs of rounds put together, and the schedule grown by four and by sixteen words at a time.
use Rattle.std.proofs.Common.{◌≡◌, ℕ, zero, suc, ◌+◌, ◌-◌, ◌/◌, ◌%◌, ◌^◌, ◌<◌, ◌≤◌, List, [], ◌∷◌, ◌++◌, map, length, get_or, take, drop, sym, refl, ap, ◌∙◌, append_assoc, append-nil, arith, w32, lit<, lit≤, length-append}
use lib.Lanes.{zip2}
use Rattle.std.specs.Simd.{first_chunks}
use Rattle.std.specs.Int.{from_be_bytes}
use Rattle.hashes.proofs.Lists.{reads_all}
use Rattle.sha256.specs.Words.{σ0, σ1}
use Rattle.std.proofs.lemmas.List.{get_or-append_right, length_push, drop_more, take_more, drop_all, get_or-take, length-take-le, take_at}
use Rattle.sha256.specs.declared.compression.State.{State}
use Rattle.sha256.specs.Schedule.{grow, grown, next, words, schedule}
use Rattle.sha256.specs.Compression.{rounds, round}

pub rounds-append : (s : State) (k l w x : List ℕ) → length k ≡ length w → rounds s (k ++ l) (w ++ x) ≡ rounds (rounds s k w) l x
rounds-append s [] l [] x e = refl
rounds-append s [] l (w ∷ ws) x e = absurd (omega arith)
rounds-append s (k ∷ ks) l [] x e = absurd (omega arith)
rounds-append s (k ∷ ks) l (w ∷ ws) x e = rounds-append (round s k w) ks l ws x (omega arith)

back : (p w : List ℕ) (n : ℕ) → n ≤ length w → get_or (p ++ w) (length (p ++ w) - n) 0 ≡ get_or w (length w - n) 0
back p w n h =
    let e = length-append p w in
    get_or-append_right p w (length p) (length (p ++ w) - n) 0 refl (omega arith)
    ∙ ap (λ i. get_or w i 0) (let f : length (p ++ w) - n - length p ≡ length w - n = omega arith in f)

pub grow_front : (p w : List ℕ) → 16 ≤ length w → grow (p ++ w) ≡ p ++ grow w
unfolding grow
grow_front p w h =
    let e2 = back p w 2 (omega arith) in
    let e7 = back p w 7 (omega arith) in
    let e15 = back p w 15 (omega arith) in
    let e16 = back p w 16 h in
    let a = append_assoc p w (next (get_or w (length w - 2) 0) (get_or w (length w - 7) 0) (get_or w (length w - 15) 0) (get_or w (length w - 16) 0) ∷ []) in
    cc

pub length-grow : (w : List ℕ) → length (grow w) ≡ length w + 1
unfolding grow
length-grow w = length_push w _

pub grown_front : (n : ℕ) (p w : List ℕ) → 16 ≤ length w → grown n (p ++ w) ≡ p ++ grown n w
grown_front zero p w h = refl
grown_front (suc n) p w h = ap (grown n) (grow_front p w h) ∙ grown_front n p (grow w) (let l = length-grow w in omega arith)

-- sixteen words, and the sixteen after them
pub grown_next : (n : ℕ) (w x : List ℕ) → length x ≡ 16 → w ++ x ≡ grown 16 w → grown n (grown 16 w) ≡ w ++ grown n x
grown_next n w x l e = ap (grown n) (sym e) ∙ grown_front n w x (omega arith)

-- one round of a run of rounds
pub round_step : (k w : List ℕ) (i : ℕ) (s t : State) → i < length k → i < length w → t ≡ round s (get_or k i 0) (get_or w i 0)
    → rounds s (drop i k) (drop i w) ≡ rounds t (drop (i + 1) k) (drop (i + 1) w)
round_step k w i s t hk hw e =
    rw (drop_more k i 0 hk, drop_more w i 0 hw) (ap (λ r. rounds r (drop (i + 1) k) (drop (i + 1) w)) (sym e))

pub rounds_done : (k w : List ℕ) (i : ℕ) (s : State) → length k ≤ i → rounds s (drop i k) (drop i w) ≡ s
rounds_done k w i s h = rw (drop_all i k h)

-- one word of the schedule: v is the words, of which the first t are known
pub grow_step : (v : List ℕ) (n t : ℕ) → 16 ≤ t → t < length v
    → get_or v t 0 ≡ next (get_or v (t - 2) 0) (get_or v (t - 7) 0) (get_or v (t - 15) 0) (get_or v (t - 16) 0)
    → grown (suc n) (take t v) ≡ grown n (take (t + 1) v)
unfolding grow
grow_step v n t h l e =
    let len = length-take-le t v (omega arith) in
    let e2 = get_or-take t v (t - 2) 0 (omega arith) in
    let e7 = get_or-take t v (t - 7) 0 (omega arith) in
    let e15 = get_or-take t v (t - 15) 0 (omega arith) in
    let e16 = get_or-take t v (t - 16) 0 (omega arith) in
    let m = take_more v t 0 l in
    let g : grow (take t v) ≡ take (t + 1) v = cc in
    ap (grown n) g

-- four words from their bytes
pub words_in_parts : (b : List ℕ) → length b ≡ 16
    → map (from_be_bytes w32) (get_or (first_chunks 4 4 b) 0 [] ∷ get_or (first_chunks 4 4 b) 1 [] ∷ get_or (first_chunks 4 4 b) 2 [] ∷ get_or (first_chunks 4 4 b) 3 [] ∷ []) ≡ words b
words_in_parts b l = rw (sym (reads_all 16 b l)) refl

-- a block in four lanes
pub words_in_lanes : (b : List ℕ) → length b ≡ 64
    → words (get_or (first_chunks 16 4 b) 0 []) ++ (words (get_or (first_chunks 16 4 b) 1 []) ++ (words (get_or (first_chunks 16 4 b) 2 []) ++ words (get_or (first_chunks 16 4 b) 3 []))) ≡ words b
words_in_lanes b l = rw (sym (reads_all 64 b l)) refl

-- the four quarters of the schedule, and of the rounds
pub schedule_is : (b w0 w1 w2 w3 : List ℕ) → length w1 ≡ 16 → length w2 ≡ 16 → length w3 ≡ 16
    → w0 ≡ words b → w0 ++ w1 ≡ grown 16 w0 → w1 ++ w2 ≡ grown 16 w1 → w2 ++ w3 ≡ grown 16 w2
    → schedule b ≡ w0 ++ (w1 ++ (w2 ++ w3))
unfolding schedule
schedule_is b w0 w1 w2 w3 l1 l2 l3 e0 e1 e2 e3 =
    ap (grown 48) (sym e0)
    ∙ grown_next 32 w0 w1 l1 e1
    ∙ ap (λ r. w0 ++ r) (grown_next 16 w1 w2 l2 e2)
    ∙ ap (λ r. w0 ++ (w1 ++ r)) (sym e3)

pub rounds_are : (s s0 s1 s2 s3 : State) (k0 k1 k2 k3 w0 w1 w2 w3 : List ℕ)
    → length k0 ≡ length w0 → length k1 ≡ length w1 → length k2 ≡ length w2
    → s0 ≡ rounds s k0 w0 → s1 ≡ rounds s0 k1 w1 → s2 ≡ rounds s1 k2 w2 → s3 ≡ rounds s2 k3 w3
    → s3 ≡ rounds s (k0 ++ (k1 ++ (k2 ++ k3))) (w0 ++ (w1 ++ (w2 ++ w3)))
rounds_are s s0 s1 s2 s3 k0 k1 k2 k3 w0 w1 w2 w3 l0 l1 l2 e0 e1 e2 e3 =
    let a = rounds-append s k0 (k1 ++ (k2 ++ k3)) w0 (w1 ++ (w2 ++ w3)) l0 in
    let b = rounds-append s0 k1 (k2 ++ k3) w1 (w2 ++ w3) l1 in
    let d = rounds-append s1 k2 k3 w2 w3 l2 in
    cc

σ1_zero : σ1 0 ≡ 0
unfolding σ1
σ1_zero = refl

-- a lane of the four words more: the first two, and the last two
lane_low : (d s b r : ℕ) → ((((d + s) % 2 ^ 32 + b) % 2 ^ 32 + r) % 2 ^ 32 + 0) % 2 ^ 32 ≡ (((r + b) % 2 ^ 32 + s) % 2 ^ 32 + d) % 2 ^ 32
lane_low d s b r = omega arith

lane_high : (d s b r : ℕ) → ((((d + s) % 2 ^ 32 + b) % 2 ^ 32 + 0) % 2 ^ 32 + r) % 2 ^ 32 ≡ (((r + b) % 2 ^ 32 + s) % 2 ^ 32 + d) % 2 ^ 32
lane_high d s b r = omega arith

abbrev add : ℕ → ℕ → ℕ
add x y = (x + y) % 2 ^ 32

low : ℕ → ℕ → ℕ → ℕ → ℕ
low d s b r = add (add (add d s) b) r

low_is : (d s b r : ℕ) → low d s b r ≡ add (low d s b r) (σ1 0)
unfolding low
low_is d s b r = (let e : add (add (add d s) b) r ≡ add (add (add (add d s) b) r) 0 = omega arith in e) ∙ ap (add (add (add (add d s) b) r)) (sym σ1_zero)

core : (a0 a1 a2 a3 b0 b1 b2 b3 c0 c1 c2 c3 d0 d1 d2 d3 : ℕ) → (a0 ∷ a1 ∷ a2 ∷ a3 ∷ b0 ∷ b1 ∷ b2 ∷ b3 ∷ c0 ∷ c1 ∷ c2 ∷ c3 ∷ d0 ∷ d1 ∷ d2 ∷ d3 ∷ []) ++ (add (low a0 (σ0 a1) c1 (σ1 d2)) (σ1 0) ∷ add (low a1 (σ0 a2) c2 (σ1 d3)) (σ1 0) ∷ add (low a2 (σ0 a3) c3 (σ1 0)) (σ1 (low a0 (σ0 a1) c1 (σ1 d2))) ∷ add (low a3 (σ0 b0) d0 (σ1 0)) (σ1 (low a1 (σ0 a2) c2 (σ1 d3))) ∷ [])
    ≡ grown 4 (a0 ∷ a1 ∷ a2 ∷ a3 ∷ b0 ∷ b1 ∷ b2 ∷ b3 ∷ c0 ∷ c1 ∷ c2 ∷ c3 ∷ d0 ∷ d1 ∷ d2 ∷ d3 ∷ [])
unfolding low next
core a0 a1 a2 a3 b0 b1 b2 b3 c0 c1 c2 c3 d0 d1 d2 d3 =
    let r0 : ℕ = add (low a0 (σ0 a1) c1 (σ1 d2)) (σ1 0) in
    let r1 : ℕ = add (low a1 (σ0 a2) c2 (σ1 d3)) (σ1 0) in
    let r2 : ℕ = add (low a2 (σ0 a3) c3 (σ1 0)) (σ1 (low a0 (σ0 a1) c1 (σ1 d2))) in
    let r3 : ℕ = add (low a3 (σ0 b0) d0 (σ1 0)) (σ1 (low a1 (σ0 a2) c2 (σ1 d3))) in
    let v : List ℕ = (a0 ∷ a1 ∷ a2 ∷ a3 ∷ b0 ∷ b1 ∷ b2 ∷ b3 ∷ c0 ∷ c1 ∷ c2 ∷ c3 ∷ d0 ∷ d1 ∷ d2 ∷ d3 ∷ []) ++ (r0 ∷ r1 ∷ r2 ∷ r3 ∷ []) in
    let e0 : r0 ≡ next d2 c1 a1 a0 = ap (add (low a0 (σ0 a1) c1 (σ1 d2))) σ1_zero ∙ lane_low a0 (σ0 a1) c1 (σ1 d2) in
    let e1 : r1 ≡ next d3 c2 a2 a1 = ap (add (low a1 (σ0 a2) c2 (σ1 d3))) σ1_zero ∙ lane_low a1 (σ0 a2) c2 (σ1 d3) in
    let e2 : r2 ≡ next r0 c3 a3 a2 =
    ap (λ z. add (low a2 (σ0 a3) c3 z) (σ1 (low a0 (σ0 a1) c1 (σ1 d2)))) σ1_zero
    ∙ lane_high a2 (σ0 a3) c3 (σ1 (low a0 (σ0 a1) c1 (σ1 d2)))
    ∙ ap (λ z. next z c3 a3 a2) (low_is a0 (σ0 a1) c1 (σ1 d2)) in
    let e3 : r3 ≡ next r1 d0 b0 a3 =
    ap (λ z. add (low a3 (σ0 b0) d0 z) (σ1 (low a1 (σ0 a2) c2 (σ1 d3)))) σ1_zero
    ∙ lane_high a3 (σ0 b0) d0 (σ1 (low a1 (σ0 a2) c2 (σ1 d3)))
    ∙ ap (λ z. next z d0 b0 a3) (low_is a1 (σ0 a2) c2 (σ1 d3)) in
    sym
    (grow_step v 3 16 (lit≤ tt) (lit< tt) e0
    ∙ grow_step v 2 17 (lit≤ tt) (lit< tt) e1
    ∙ grow_step v 1 18 (lit≤ tt) (lit< tt) e2
    ∙ grow_step v 0 19 (lit≤ tt) (lit< tt) e3)

abbrev pub zero4 : List ℕ
zero4 = 0 ∷ 0 ∷ 0 ∷ 0 ∷ []

abbrev pub shifted : List ℕ → List ℕ → List ℕ
shifted x y = get_or (x ++ y) 1 0 ∷ get_or (x ++ y) 2 0 ∷ get_or (x ++ y) 3 0 ∷ get_or (x ++ y) 4 0 ∷ []

pub next_four_is : (x0 x1 x2 x3 a b c : List ℕ) → length x0 ≡ 4 → length x1 ≡ 4 → length x2 ≡ 4 → length x3 ≡ 4
    → a ≡ map σ0 (shifted x0 x1)
    → b ≡ map σ1 (get_or (x3 ++ zero4) 2 0 ∷ get_or (x3 ++ zero4) 3 0 ∷ get_or (x3 ++ zero4) 4 0 ∷ get_or (x3 ++ zero4) 4 0 ∷ [])
    → (let low4 : List ℕ = zip2 add (zip2 add (zip2 add x0 a) (shifted x2 x3)) b in c ≡ map σ1 (get_or (low4 ++ zero4) 4 0 ∷ get_or (low4 ++ zero4) 4 0 ∷ get_or (low4 ++ zero4) 0 0 ∷ get_or (low4 ++ zero4) 1 0 ∷ []))
    → (x0 ++ (x1 ++ (x2 ++ x3))) ++ zip2 add (zip2 add (zip2 add (zip2 add x0 a) (shifted x2 x3)) b) c ≡ grown 4 (x0 ++ (x1 ++ (x2 ++ x3)))
unfolding low
next_four_is x0 x1 x2 x3 a b c l0 l1 l2 l3 ea eb ec =
    rw (ec, eb, ea, sym (reads_all 4 x0 l0), sym (reads_all 4 x1 l1), sym (reads_all 4 x2 l2), sym (reads_all 4 x3 l3))
    (core (get_or x0 0 0) (get_or x0 1 0) (get_or x0 2 0) (get_or x0 3 0) (get_or x1 0 0) (get_or x1 1 0) (get_or x1 2 0) (get_or x1 3 0) (get_or x2 0 0) (get_or x2 1 0) (get_or x2 2 0) (get_or x2 3 0) (get_or x3 0 0) (get_or x3 1 0) (get_or x3 2 0) (get_or x3 3 0))

-- what n words more put behind the words so far
more : (n : ℕ) (w : List ℕ) → (r : List ℕ) × (grown n w ≡ w ++ r)
unfolding grow
more zero w = ([], sym (append-nil w))
more (suc n) w =
    let x : ℕ = next (get_or w (length w - 2) 0) (get_or w (length w - 7) 0) (get_or w (length w - 15) 0) (get_or w (length w - 16) 0) in
    let rest = more n (w ++ x ∷ []) in
    (x ∷ rest.0, rest.1 ∙ append_assoc w (x ∷ []) rest.0)

moved : (n : ℕ) (x w v : List ℕ) → length v ≡ 16 → x ++ v ≡ grown 4 w → grown n (grown 4 w) ≡ x ++ grown n v
moved n x w v l e = ap (grown n) (sym e) ∙ grown_front n x v (omega arith)

-- a window moved on by four words four times: the words that went by are its own, and the last window has those after them
module _ (w0 w1 w2 w3 w4 x0 x1 x2 x3 : List ℕ)
    (l0 : length w0 ≡ 16) (l1 : length w1 ≡ 16) (l2 : length w2 ≡ 16) (l3 : length w3 ≡ 16) (m : length (x0 ++ (x1 ++ (x2 ++ x3))) ≡ 16)
    (e0 : x0 ++ w1 ≡ grown 4 w0) (e1 : x1 ++ w2 ≡ grown 4 w1) (e2 : x2 ++ w3 ≡ grown 4 w2) (e3 : x3 ++ w4 ≡ grown 4 w3) where
  gone : (x0 ++ (x1 ++ (x2 ++ x3))) ++ w4 ≡ grown 16 w0
  gone =
      let f : (x0 ++ (x1 ++ (x2 ++ x3))) ++ w4 ≡ x0 ++ (x1 ++ (x2 ++ (x3 ++ w4))) = simp append_assoc in
      f ∙ sym
      (moved 12 x0 w0 w1 l1 e0
      ∙ ap (λ r. x0 ++ r) (moved 8 x1 w1 w2 l2 e1)
      ∙ ap (λ r. x0 ++ (x1 ++ r)) (moved 4 x2 w2 w3 l3 e2)
      ∙ ap (λ r. x0 ++ (x1 ++ (x2 ++ r))) (sym e3))

  pub words_gone : x0 ++ (x1 ++ (x2 ++ x3)) ≡ w0
  words_gone =
      let r = more 16 w0 in
      sym (take_at (x0 ++ (x1 ++ (x2 ++ x3))) w4 16 m) ∙ ap (take 16) (gone ∙ r.1) ∙ take_at w0 r.0 16 l0

  pub words_next : w0 ++ w4 ≡ grown 16 w0
  words_next = ap (λ r. r ++ w4) (sym words_gone) ∙ gone

-- sixteen constants as four rows
abbrev pub Rows : List ℕ → List (List ℕ) → Type 0
Rows k ks = (length (get_or ks 0 []) ≡ 4) × (length (get_or ks 1 []) ≡ 4) × (length (get_or ks 2 []) ≡ 4) × (get_or ks 0 [] ++ (get_or ks 1 [] ++ (get_or ks 2 [] ++ get_or ks 3 [])) ≡ k)

pub rows : (k : List ℕ) → length k ≡ 16 → Rows k (first_chunks 4 (length k / 4) k)
rows k l = rw (l, sym (reads_all 16 k l)) (refl, refl, refl, refl)
