use Rattle.std.proofs.Common.{◌≡◌, ℕ, List, [], ◌∷◌, ◌++◌, true, is_some, Some, None, Option, MatchOption, Bor, sym, refl, ap, ◌∙◌, subst}
use borrow.Author.Tests.{clash}
use Rattle.texts.specs.Cuts.{FirstCut, Lacks}
use Rattle.texts.proofs.Pieces.{one_cut, no_cut}
use Rattle.texts.specs.Lines.{tabbed}
use Rattle.vector_files.specs.Tabs.{Parted}

pub one : (s : List ℕ) → Lacks 9 s → Parted s (s ∷ [])
one s l = record { whole = refl; no_tab = (l, tt) }

pub more : (s a b rest : List ℕ) (fs : List (List ℕ)) → FirstCut 9 s a rest → Parted rest (b ∷ fs) → Parted s (a ∷ (b ∷ fs))
more s a b rest fs c p = record { whole = c.whole ∙ ap (λ (z : List ℕ). a ++ (9 ∷ z)) p.whole; no_tab = (c.first, p.no_tab) }

-- the first field is what stands before the first tab
first : (s a b : List ℕ) (fs : List (List ℕ)) → Parted s (a ∷ (b ∷ fs)) → FirstCut 9 s a (tabbed (b ∷ fs))
first s a b fs p = record { whole = p.whole; first = p.no_tab.0 }

pub no_tab : (s a b : List ℕ) (fs : List (List ℕ)) → Lacks 9 s → Parted s (a ∷ (b ∷ fs)) → ⊥
no_tab s a b fs l p = no_cut 9 s a _ l (first s a b fs p)

pub after_first : (s a b x rest : List ℕ) (fs : List (List ℕ)) → FirstCut 9 s x rest → Parted s (a ∷ (b ∷ fs)) → (x ≡ a) × Parted rest (b ∷ fs)
after_first s a b x rest fs c p =
    let e = one_cut 9 s x a rest _ c (first s a b fs p) in
    (e.0, record { whole = e.1; no_tab = p.no_tab.1 })

pub no_rest : (s a b x rest : List ℕ) (fs : List (List ℕ)) → FirstCut 9 s x rest → (Parted rest (b ∷ fs) → ⊥) → Parted s (a ∷ (b ∷ fs)) → ⊥
no_rest s a b x rest fs c none p = none (after_first s a b x rest fs c p).1

pub last_lacks : (s a : List ℕ) → Parted s (a ∷ []) → Lacks 9 s
last_lacks s a p = subst (Lacks 9) (sym p.whole) p.no_tab.0

pub no_more : (s a : List ℕ) (r : Option (Bor (List ℕ) × Bor (List ℕ))) → MatchOption r (Lacks 9 s) (λ p. FirstCut 9 s p.0.now p.1.now) → is_some r ≡ true
    → Parted s (a ∷ []) → ⊥
no_more s a (Some (x, rest)) c e p = no_cut 9 s x.now rest.now (last_lacks s a p) c
no_more s a None c e p = absurd (clash e)

-- a line has its fields only once
pub one_more : (s a b a' b' : List ℕ) (fs gs : List (List ℕ)) → Parted s (a ∷ (b ∷ fs)) → Parted s (a' ∷ (b' ∷ gs))
    → (a ≡ a') × Parted (tabbed (b ∷ fs)) (b' ∷ gs)
one_more s a b a' b' fs gs p q = after_first s a' b' a _ gs (first s a b fs p) q

pub rest_of : (s a b : List ℕ) (fs : List (List ℕ)) → Parted s (a ∷ (b ∷ fs)) → Parted (tabbed (b ∷ fs)) (b ∷ fs)
rest_of s a b fs p = record { whole = refl; no_tab = p.no_tab.1 }
