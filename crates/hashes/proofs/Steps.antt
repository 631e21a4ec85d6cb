-- Traces: every fold goes through exactly one list of values, which ends with what the fold gives.
use Rattle.std.proofs.Common.{◌≡◌, ℕ, zero, suc, ◌<◌, List, [], ◌∷◌, length, get_or, fold, refl, ap, ◌∙◌, arith}
use Rattle.hashes.specs.Traces.{Trace, OneTrace}

module _ {A B : Type 0} (f : B → A → B) where
  values_of : B → List A → List B
  values_of a [] = a ∷ []
  values_of a (x ∷ xs) = a ∷ values_of (f a x) xs

  long_of : (a : B) (xs : List A) → length (values_of a xs) ≡ suc (length xs)
  unfolding values_of
  long_of a [] = refl
  long_of a (x ∷ xs) = ap suc (long_of (f a x) xs)

  first_of : (a : B) (xs : List A) (d : B) → get_or (values_of a xs) 0 d ≡ a
  unfolding values_of
  first_of a [] d = refl
  first_of a (x ∷ xs) d = refl

  next_of : (a : B) (xs : List A) (d : B) (e : A) (i : ℕ) → i < length xs → get_or (values_of a xs) (suc i) d ≡ f (get_or (values_of a xs) i d) (get_or xs i e)
  unfolding values_of
  next_of a [] d e i h = absurd (omega arith)
  next_of a (x ∷ xs) d e zero h = first_of (f a x) xs d
  next_of a (x ∷ xs) d e (suc i) h = next_of (f a x) xs d e i (omega arith)

  ends_of : (a : B) (xs : List A) (d : B) → get_or (values_of a xs) (length xs) d ≡ fold f a xs
  unfolding values_of
  ends_of a [] d = refl
  ends_of a (x ∷ xs) d = ends_of (f a x) xs d

  only_of : (a : B) (xs : List A) (vs : List B) → Trace f a xs vs → vs ≡ values_of a xs
  unfolding values_of
  only_of a xs [] t = absurd (let l = t.long in omega arith)
  only_of a [] (v ∷ []) t = ap (λ w. w ∷ []) (t.first a)
  only_of a [] (v ∷ w ∷ vs) t = absurd (let l = t.long in omega arith)
  only_of a (x ∷ xs) (v ∷ vs) t =
      let head : v ≡ a = t.first a in
      let rest : Trace f (f a x) xs vs = record {
        long = (let l = t.long in omega arith);
        first = λ d. t.next d x 0 (omega arith) ∙ ap (λ w. f w x) head;
        next = λ d e i h. t.next d e (suc i) (omega arith);
      } in
      ap (λ w. w ∷ vs) head ∙ ap (λ ws. a ∷ ws) (only_of (f a x) xs vs rest)

  pub one_trace : (a : B) (xs : List A) → OneTrace f a xs (fold f a xs)
  one_trace a xs = record {
    values = values_of a xs;
    trace = record { long = long_of a xs; first = first_of a xs; next = next_of a xs };
    ends = ends_of a xs;
    only = only_of a xs;
  }
