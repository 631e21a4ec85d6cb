-- The recordings of a library are the one way to cut it every 4,096 bytes.
use Rattle.std.proofs.Common.{◌≡◌, ℕ, zero, suc, ◌+◌, ◌-◌, ◌*◌, ◌/◌, ◌<◌, ◌≤◌, min, List, [], ◌∷◌, ◌++◌, map, length, get_or, take, drop, sym, refl, ap, ◌∙◌, Bor, MatchOption, None, Option, Some, arith, take-add}
use Rattle.std.proofs.lemmas.List.FromFn.{length-map-range_with_len, get_or-map-range_with_len}
use Rattle.std.proofs.lemmas.List.{append_cancel_left, nil_from_length, take_at, take_all, drop-drop, length-append, length-take, length-drop}
use Rattle.std.specs.Iterator.{AlwaysYields}
use Rattle.std.specs.List.{range_with_len, concat}
use Rattle.std.specs.Slice.Iter.{chunks_rest, chunks_size, chunks_steps}
use Rattle.std.specs.declared.slice.Chunks.{Chunks}
use Rattle.recordings.specs.Recordings.{recordings, Cut, OnlyCut}

pub length-recordings : (library : List ℕ) → length (recordings library) ≡ (length library + 4095) / 4096
unfolding recordings
length-recordings library = length-map-range_with_len _ 0 _

pub get_or-recordings : (library : List ℕ) (j : ℕ) → j < length (recordings library) → get_or (recordings library) j [] ≡ take 4096 (drop (j * 4096) library)
unfolding recordings
get_or-recordings library j below =
    let h : j < (length library + 4095) / 4096 = omega (arith, length-recordings library) in
    get_or-map-range_with_len _ 0 _ j j [] h (omega arith)

-- so many recordings from number a on, joined
concat_from : (library : List ℕ) (a n : ℕ) → concat (map (λ j. take 4096 (drop (j * 4096) library)) (range_with_len a n)) ≡ take (n * 4096) (drop (a * 4096) library)
concat_from library a zero = refl
concat_from library a (suc n) =
    let e : (a + 1) * 4096 ≡ a * 4096 + 4096 = omega arith in
    let f : suc n * 4096 ≡ 4096 + n * 4096 = omega arith in
    let rest : concat (map (λ j. take 4096 (drop (j * 4096) library)) (range_with_len (a + 1) n)) ≡ take (n * 4096) (drop 4096 (drop (a * 4096) library)) =
    concat_from library (a + 1) n ∙ ap (λ (k : ℕ). take (n * 4096) (drop k library)) e ∙ ap (take (n * 4096)) (sym (drop-drop 4096 (a * 4096) library)) in
    ap (λ (l : List ℕ). take 4096 (drop (a * 4096) library) ++ l) rest
    ∙ sym (take-add 4096 (n * 4096) (drop (a * 4096) library))
    ∙ ap (λ (k : ℕ). take k (drop (a * 4096) library)) (sym f)

whole_recordings : (library : List ℕ) → concat (recordings library) ≡ library
unfolding recordings
whole_recordings library =
    let enough : length library ≤ (length library + 4095) / 4096 * 4096 = omega arith in
    concat_from library 0 ((length library + 4095) / 4096) ∙ take_all _ library enough

length_recording : (library : List ℕ) (j : ℕ) → j < length (recordings library) → length (get_or (recordings library) j []) ≡ min 4096 (length library - j * 4096)
length_recording library j below = ap length (get_or-recordings library j below) ∙ length-take 4096 (drop (j * 4096) library) ∙ ap (min 4096) (length-drop (j * 4096) library)

cut_recordings : (library : List ℕ) → Cut library (recordings library)
cut_recordings library = record {
  whole = whole_recordings library;
  full = λ j below. omega (arith, length_recording library j (omega arith), length-recordings library);
  last = λ j here. let e = length_recording library j (omega arith) in (omega (arith, e, length-recordings library), omega (arith, e, length-recordings library));
}

-- what Cut says of the lengths
abbrev Lengths : List (List ℕ) → Type 0
Lengths pieces = ((j : ℕ) → j + 1 < length pieces → length (get_or pieces j []) ≡ 4096)
    × ((j : ℕ) → j + 1 ≡ length pieces → (1 ≤ length (get_or pieces j [])) × (length (get_or pieces j []) ≤ 4096))

lengths_rest : (x : List ℕ) (xs : List (List ℕ)) → Lengths (x ∷ xs) → Lengths xs
lengths_rest x xs l = ((λ j below. l.0 (suc j) (omega arith)), (λ j here. l.1 (suc j) (omega arith)))

length_first : (x : List ℕ) (xs : List (List ℕ)) → Lengths (x ∷ xs) → (1 ≤ length x) × (length x ≡ min 4096 (length (x ++ concat xs)))
length_first x [] l = let h = l.1 0 refl in (h.0, omega (arith, length-append x [], h.1))
length_first x (y ∷ xs) l = let h = l.0 0 (omega arith) in (omega arith, omega (arith, length-append x (concat (y ∷ xs))))

one_cut : (xs ys : List (List ℕ)) → Lengths xs → Lengths ys → concat xs ≡ concat ys → xs ≡ ys
one_cut [] [] l m e = refl
one_cut [] (y ∷ ys) l m e = absurd (omega (arith, (length_first y ys m).0, length-append y (concat ys), ap length e))
one_cut (x ∷ xs) [] l m e = absurd (omega (arith, (length_first x xs l).0, length-append x (concat xs), ap length e))
one_cut (x ∷ xs) (y ∷ ys) l m e =
    let same : length x ≡ length y = (length_first x xs l).1 ∙ ap (λ (t : List ℕ). min 4096 (length t)) e ∙ sym (length_first y ys m).1 in
    let first : x ≡ y = sym (take_at x (concat xs) _ refl) ∙ ap (take (length x)) e ∙ take_at y (concat ys) _ (sym same) in
    let rest : concat xs ≡ concat ys = append_cancel_left y _ _ (ap (λ (t : List ℕ). t ++ concat xs) (sym first) ∙ e) in
    let more = one_cut xs ys (lengths_rest x xs l) (lengths_rest y ys m) rest in
    cc

pub only_cut : (library : List ℕ) → OnlyCut library (recordings library)
only_cut library =
    let c = cut_recordings library in
    record { cut = c; only = λ others d. one_cut others (recordings library) (d.full, d.last) (c.full, c.last) (d.whole ∙ sym c.whole) }

-- what Cut says of the lengths, where a piece stands in front of others
full_more : (x : List ℕ) (xs : List (List ℕ)) → (1 ≤ length xs → length x ≡ 4096) → ((j : ℕ) → j + 1 < length xs → length (get_or xs j []) ≡ 4096)
    → (j : ℕ) → j + 1 < length (x ∷ xs) → length (get_or (x ∷ xs) j []) ≡ 4096
full_more x xs first more zero below = first (omega arith)
full_more x xs first more (suc j) below = more j (omega arith)

last_more : (x : List ℕ) (xs : List (List ℕ)) → 1 ≤ length x → length x ≤ 4096 → ((j : ℕ) → j + 1 ≡ length xs → (1 ≤ length (get_or xs j [])) × (length (get_or xs j []) ≤ 4096))
    → (j : ℕ) → j + 1 ≡ length (x ∷ xs) → (1 ≤ length (get_or (x ∷ xs) j [])) × (length (get_or (x ∷ xs) j []) ≤ 4096)
last_more x xs some few more zero here = (some, few)
last_more x xs some few more (suc j) here = more j (omega arith)

-- the first recording, and the recordings of what is left
pub recordings_more : (library piece rest : List ℕ) → library ≡ piece ++ rest → length piece ≡ min 4096 (length library) → 0 < length library
    → recordings library ≡ piece ∷ recordings rest
recordings_more library piece rest e long some =
    let c = cut_recordings rest in
    sym (
    (only_cut library).only (piece ∷ recordings rest) (record {
      whole = ap (λ (l : List ℕ). piece ++ l) c.whole ∙ sym e;
      full = full_more piece (recordings rest) (λ more. omega (arith, ap length e, length-append piece rest, length-recordings rest)) c.full;
      last = last_more piece (recordings rest) (omega arith) (omega arith) c.last;
    })
    )

-- one step over the chunks of 4,096 bytes, and the end
pub recordings_step : (s t : Chunks ℕ) (x : Bor (List ℕ)) → chunks_size s ≡ 4096 → chunks_steps s (Some x) t → recordings (chunks_rest s) ≡ x.now ∷ recordings (chunks_rest t)
recordings_step s t x size step =
    recordings_more (chunks_rest s) x.now (chunks_rest t) step.1.0 (step.1.1 ∙ ap (λ (n : ℕ). min n (length (chunks_rest s))) size) step.1.2

pub recordings_end : (s t : Chunks ℕ) → chunks_steps s None t → recordings (chunks_rest s) ≡ []
recordings_end s t step = nil_from_length (recordings (chunks_rest s)) (omega (arith, step.1.0, length-recordings (chunks_rest s)))

-- the first chunk of what begins where recording j does
pub first_chunk : (library : List ℕ) (j : ℕ) (s t : Chunks ℕ) (r : Option (Bor (List ℕ))) → chunks_size s ≡ 4096 → chunks_rest s ≡ drop (j * 4096) library → chunks_steps s r t
    → MatchOption r (length (recordings library) ≤ j) (λ piece. (j < length (recordings library)) × (piece.now ≡ get_or (recordings library) j []))
first_chunk library j s t None size begins step = omega (arith, step.1.0, length-recordings library, ap length begins, length-drop (j * 4096) library)
first_chunk library j s t (Some x) size begins step =
    let below : j < length (recordings library) = omega (arith, step.1.2, length-recordings library, ap length begins, length-drop (j * 4096) library) in
    let more = recordings_step s t x size step in (
      below,
      ap (λ (l : List (List ℕ)). get_or l 0 []) (sym more)
          ∙ get_or-recordings (chunks_rest s) 0 (omega (arith, ap length more))
          ∙ ap (take 4096) begins
          ∙ sym (get_or-recordings library j below),
    )

-- what the chunks of 4,096 bytes give
yields_from : (s : Chunks ℕ) (ys : List (List ℕ)) → chunks_size s ≡ 4096 → recordings (chunks_rest s) ≡ ys → AlwaysYields chunks_steps (λ piece. piece.now) s ys
yields_from s [] size e = λ x t step. let more = recordings_step s t x size step in omega (arith, ap length more, ap length e)
yields_from s (y ∷ ys) size e = (
  λ t step. let none = recordings_end s t step in omega (arith, ap length none, ap length e),
  λ x t step. let more : (x.now ∷ recordings (chunks_rest t)) ≡ (y ∷ ys) = sym (recordings_step s t x size step) ∙ e in (cc more, yields_from t ys (step.0 ∙ size) (cc more)),
)

pub yields_recordings : (s : Chunks ℕ) (library : List ℕ) → chunks_size s ≡ 4096 → chunks_rest s ≡ library → AlwaysYields chunks_steps (λ piece. piece.now) s (recordings library)
yields_recordings s library size e = yields_from s (recordings library) size (ap recordings e)
