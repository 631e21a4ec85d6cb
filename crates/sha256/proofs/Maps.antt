-- What an array's `map` gives, where each call gives the value of one function.
use Rattle.std.proofs.Common.{◌≡◌, ℕ, List, map, length, get_or, sym, ◌∙◌, arith}
use Rattle.std.specs.Array.{IsMapOf}
use Rattle.std.specs.Fn.{Called}
use Rattle.std.proofs.lemmas.List.{same_lists, get_or-map, length-map}
use denote.Param.Members.{Mut}

pub mapped : {F A B : Type 0} (g : Mut F (A × Unit {0}) B) (h : A → B) (f : F) (xs : List A) (ys : List B) (n : ℕ) (d : A)
    → length xs ≡ n → IsMapOf g f xs ys n → ((p : F) (x : A) (y : B) (q : F) → Called g p (x, tt) y q → y ≡ h x) → ys ≡ map h xs
mapped g h f xs ys n d l m value =
    let long = m.long in
    let same : length ys ≡ length (map h xs) = long ∙ sym l ∙ sym (length-map xs h) in
    same_lists ys (map h xs) same (λ k e below.
    let call = m.at k d e (omega arith) in
    value call.0 (get_or xs k d) (get_or ys k e) call.1 call.2 ∙ sym (get_or-map h xs k d e (omega arith)))
