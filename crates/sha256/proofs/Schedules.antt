-- Every block has the standard's schedule and no other (schedule_law), and goes through its rounds one by one (rounds_law).
use Rattle.std.proofs.Common.{◌≡◌, ℕ, zero, suc, ◌+◌, ◌-◌, ◌*◌, ◌<◌, ◌≤◌, List, [], ◌∷◌, length, get_or, drop, fold, sym, refl, ap, ◌∙◌, subst, ⊎_elim, arith}
use Rattle.std.proofs.lemmas.Bool.{cases_eq, cases_lt}
use Rattle.std.specs.List.{range_with_len}
use Rattle.hashes.specs.Traces.{OneTrace}
use Rattle.hashes.proofs.Steps.{one_trace}
use Rattle.std.proofs.lemmas.List.{ext_get_or, get_or_append_left, get_or_push}
use Rattle.sha256.specs.Schedule.{word, words, next, grow, grown, schedule, Schedule, ScheduleLaw}
use Rattle.sha256.specs.Compression.{RoundsLaw, constants, round, rounds}
use Rattle.sha256.specs.declared.compression.State.{State}
use Rattle.sha256.proofs.Steps.{length-grow, round_step, rounds_done}

pub length-words : (n : ℕ) (bytes : List ℕ) → length bytes ≡ 4 * n → length (words bytes) ≡ n
length-words n [] e = omega arith
length-words n (a ∷ []) e = absurd (omega arith)
length-words n (a ∷ b ∷ []) e = absurd (omega arith)
length-words n (a ∷ b ∷ c ∷ []) e = absurd (omega arith)
length-words zero (a ∷ b ∷ c ∷ d ∷ rest) e = absurd (omega arith)
length-words (suc n) (a ∷ b ∷ c ∷ d ∷ rest) e = ap suc (length-words n rest (omega arith))

-- the word t of a string of bytes
pub get_or-words : (bytes : List ℕ) (t : ℕ) → 4 * t + 3 < length bytes → get_or (words bytes) t 0 ≡ word bytes t
get_or-words [] t h = absurd (omega arith)
get_or-words (a ∷ []) t h = absurd (omega arith)
get_or-words (a ∷ b ∷ []) t h = absurd (omega arith)
get_or-words (a ∷ b ∷ c ∷ []) t h = absurd (omega arith)
get_or-words (a ∷ b ∷ c ∷ d ∷ rest) zero h = refl
get_or-words (a ∷ b ∷ c ∷ d ∷ rest) (suc t) h =
    let bytes : List ℕ = a ∷ b ∷ c ∷ d ∷ rest in
    let e0 : suc (suc (suc (suc (4 * t)))) ≡ 4 * suc t = omega arith in
    let e1 : suc (suc (suc (suc (4 * t + 1)))) ≡ 4 * suc t + 1 = omega arith in
    let e2 : suc (suc (suc (suc (4 * t + 2)))) ≡ 4 * suc t + 2 = omega arith in
    let e3 : suc (suc (suc (suc (4 * t + 3)))) ≡ 4 * suc t + 3 = omega arith in
    let f0 : get_or rest (4 * t) 0 ≡ get_or bytes (4 * suc t) 0 = ap (λ i. get_or bytes i 0) e0 in
    let f1 : get_or rest (4 * t + 1) 0 ≡ get_or bytes (4 * suc t + 1) 0 = ap (λ i. get_or bytes i 0) e1 in
    let f2 : get_or rest (4 * t + 2) 0 ≡ get_or bytes (4 * suc t + 2) 0 = ap (λ i. get_or bytes i 0) e2 in
    let f3 : get_or rest (4 * t + 3) 0 ≡ get_or bytes (4 * suc t + 3) 0 = ap (λ i. get_or bytes i 0) e3 in
    get_or-words rest t (omega arith) ∙ (cc)

length-grown : (n : ℕ) (ws : List ℕ) → length (grown n ws) ≡ length ws + n
length-grown zero ws = omega arith
length-grown (suc n) ws = let e = length-grown n (grow ws) in let f = length-grow ws in omega arith

-- words that are there stay
grow_keeps : (ws : List ℕ) (t : ℕ) → t < length ws → get_or (grow ws) t 0 ≡ get_or ws t 0
unfolding grow
grow_keeps ws t h = get_or_append_left ws _ 0 t h

grown_keeps : (n : ℕ) (ws : List ℕ) (t : ℕ) → t < length ws → get_or (grown n ws) t 0 ≡ get_or ws t 0
grown_keeps zero ws t h = refl
grown_keeps (suc n) ws t h = let f = length-grow ws in grown_keeps n (grow ws) t (omega arith) ∙ grow_keeps ws t h

-- the word t as the sum of four earlier ones
abbrev Follows : List ℕ → ℕ → Type 0
Follows ws t = get_or ws t 0 ≡ next (get_or ws (t - 2) 0) (get_or ws (t - 7) 0) (get_or ws (t - 15) 0) (get_or ws (t - 16) 0)

grow_follows : (ws : List ℕ) → 16 ≤ length ws → Follows (grow ws) (length ws)
unfolding grow
grow_follows ws h =
    let w2 = grow_keeps ws (length ws - 2) (omega arith) in
    let w7 = grow_keeps ws (length ws - 7) (omega arith) in
    let w15 = grow_keeps ws (length ws - 15) (omega arith) in
    let w16 = grow_keeps ws (length ws - 16) (omega arith) in
    let new = get_or_push ws (next (get_or ws (length ws - 2) 0) (get_or ws (length ws - 7) 0) (get_or ws (length ws - 15) 0) (get_or ws (length ws - 16) 0)) 0 (length ws) refl in
    cc

grown_follows : (n : ℕ) (ws : List ℕ) (t : ℕ) → 16 ≤ length ws → length ws ≤ t → t < length ws + n → Follows (grown n ws) t
grown_follows zero ws t h low high = absurd (omega arith)
grown_follows (suc n) ws t h low high =
    let l = length-grow ws in
    ⊎_elim
    (λ here.
    let at : Follows (grow ws) t = subst (Follows (grow ws)) (sym here) (grow_follows ws h) in
    let w = grown_keeps n (grow ws) t (omega arith) in
    let w2 = grown_keeps n (grow ws) (t - 2) (omega arith) in
    let w7 = grown_keeps n (grow ws) (t - 7) (omega arith) in
    let w15 = grown_keeps n (grow ws) (t - 15) (omega arith) in
    let w16 = grown_keeps n (grow ws) (t - 16) (omega arith) in
    cc)
    (λ past. grown_follows n (grow ws) t (omega arith) (let ne : length ws < t = omega (arith, past) in omega arith) (omega arith))
    (cases_eq t (length ws))

scheduled : (block : List ℕ) → length block ≡ 64 → Schedule block (schedule block)
unfolding schedule next
scheduled block e =
    let n = length-words 16 block e in
    record {
      long = (let l = length-grown 48 (words block) in omega arith);
      first = λ t h. grown_keeps 48 (words block) t (omega arith) ∙ get_or-words block t (omega arith);
      later = λ t low high. grown_follows 48 (words block) t (omega arith) (omega arith) (omega arith);
    }

module _ (block ws vs : List ℕ) (p : Schedule block ws) (q : Schedule block vs) where
  same_below : (n t : ℕ) → t < n → t < 64 → get_or ws t 0 ≡ get_or vs t 0
  same_below zero t h l = absurd (omega arith)
  same_below (suc n) t h l =
      ⊎_elim
      (λ low. p.first t low ∙ sym (q.first t low))
      (λ high.
      let w2 = same_below n (t - 2) (omega arith) (omega arith) in
      let w7 = same_below n (t - 7) (omega arith) (omega arith) in
      let w15 = same_below n (t - 15) (omega arith) (omega arith) in
      let w16 = same_below n (t - 16) (omega arith) (omega arith) in
      let a = p.later t high l in
      let b = q.later t high l in
      cc)
      (cases_lt t 16)

  only : ws ≡ vs
  only = ext_get_or 0 ws vs (p.long ∙ sym q.long) (λ t h. let l = p.long in same_below 64 t (omega arith) (omega arith))

pub schedule_law : ScheduleLaw
schedule_law block e = (scheduled block e, λ ws p. only block ws (schedule block) p (scheduled block e))

-- the rounds from i on, one by one
rounds-fold : (ks ws : List ℕ) (n i : ℕ) (s : State) → i + n ≡ length ks → i + n ≡ length ws
    → fold (λ v t. round v (get_or ks t 0) (get_or ws t 0)) s (range_with_len i n) ≡ rounds s (drop i ks) (drop i ws)
rounds-fold ks ws zero i s hk hw = sym (rounds_done ks ws i s (omega arith))
rounds-fold ks ws (suc n) i s hk hw =
    rounds-fold ks ws n (i + 1) (round s (get_or ks i 0) (get_or ws i 0)) (omega arith) (omega arith)
    ∙ sym (round_step ks ws i s (round s (get_or ks i 0) (get_or ws i 0)) (omega arith) (omega arith) refl)

length-constants : 64 ≡ length constants
unfolding constants
length-constants = refl

pub rounds_law : RoundsLaw
rounds_law s block e =
    let ws : List ℕ = schedule block in
    let rule : State → ℕ → State = λ v t. round v (get_or constants t 0) (get_or ws t 0) in
    let sixty_four : 0 + 64 ≡ length constants = length-constants in
    subst (OneTrace rule s (range_with_len 0 64)) (rounds-fold constants ws 64 0 s sixty_four (sym (scheduled block e).long)) (one_trace rule s (range_with_len 0 64))
