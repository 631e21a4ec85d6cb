-- Folds over two lists in a row, lists read element by element, pieces joined one by one, and strings absorbed in a row.
use Rattle.std.proofs.Common.{◌≡◌, ℕ, zero, suc, ◌+◌, ◌<◌, ◌≤◌, List, [], ◌∷◌, ◌++◌, map, length, get_or, take, drop, sym, refl, ap, ◌∙◌, append_assoc, append-nil, arith}
use mathlib.Core.List.{map-append}
use Rattle.std.specs.List.{concat}
use Rattle.std.proofs.lemmas.List.{drop_more, take_all, take_more}
use Rattle.std.proofs.lemmas.List.Folds.{concat-append}
use Rattle.hashes.specs.Running.{after}

-- the n elements from i on, read one by one
abbrev pub reads : ℕ → ℕ → List ℕ → List ℕ
reads i zero xs = []
reads i (suc n) xs = get_or xs i 0 ∷ reads (i + 1) n xs

pub reads_are : (i n : ℕ) (xs : List ℕ) → i + n ≤ length xs → reads i n xs ≡ take n (drop i xs)
reads_are i zero xs h = refl
reads_are i (suc n) xs h =
    let l : i < length xs = omega arith in
    let e = drop_more xs i 0 l in
    rw e (ap (λ ys. get_or xs i 0 ∷ ys) (reads_are (i + 1) n xs (omega arith)))

pub reads_all : (n : ℕ) (xs : List ℕ) → length xs ≡ n → reads 0 n xs ≡ xs
reads_all n xs e = reads_are 0 n xs (omega arith) ∙ take_all n xs (omega arith)

-- the pieces so far, and then one more
pub after-more : {X : Type 0} (f : X → List ℕ) (xs : List X) (n : ℕ) (d : X) (meaning : List ℕ → List ℕ) → n < length xs
    → after (f (get_or xs n d)) (after (concat (map f (take n xs))) meaning) ≡ after (concat (map f (take (n + 1) xs))) meaning
after-more f xs n d meaning h =
    let joined : concat (map f (take (n + 1) xs)) ≡ concat (map f (take n xs)) ++ f (get_or xs n d) =
    rw (take_more xs n d h, map-append f (take n xs) (get_or xs n d ∷ []), concat-append (map f (take n xs)) (f (get_or xs n d) ∷ [])) (simp append-nil) in
    rw joined (λ i rest. meaning (sym (append_assoc (concat (map f (take n xs))) (f (get_or xs n d)) rest) i))
