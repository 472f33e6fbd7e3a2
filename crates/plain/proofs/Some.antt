-- A test that passes at some number of a list; the list asked number by number: what is found so far and what the rest says are the whole.
use Rattle.std.proofs.Common.{◌≡◌, ℕ, ◌+◌, ◌<◌, ◌≤◌, Bool, true, false, ◌||◌, T, ◌↔◌, List, [], ◌∷◌, ◌++◌, length, get_or, drop, sym, refl, ap, ◌∙◌, subst, inl, inr, ⊎_elim}
use Rattle.std.proofs.lemmas.List.{at_drop_more, at_drop_all}
use Rattle.std.proofs.lemmas.Bool.{or_left}
use Rattle.std.proofs.lemmas.List.Folds.{list_any-append}
use Rattle.theory.specs.Chains.{On}
use Rattle.theory.proofs.Tests.{or-either, or_fst, or_snd}
use Rattle.plain.specs.Lists.{some}

pub some-on : (f : ℕ → Bool) (xs : List ℕ) → T (some f xs) ↔ ((x : ℕ) × On x xs × T (f x))
some-on f [] = (λ t. absurd t, λ s. s.1)
some-on f (x ∷ xs) =
    let ih = some-on f xs in (
      λ t. ⊎_elim (λ h. (x, inl refl, h)) (λ h. let r = ih.0 h in (r.0, inr r.1, r.2)) (or-either (f x) (some f xs) t),
      λ s. ⊎_elim (λ e. or_fst (f x) (some f xs) (subst (λ (z : ℕ). T (f z)) e s.2)) (λ o. or_snd (f x) (some f xs) (ih.1 (s.0, o, s.2))) s.1,
    )

pub some-append : (f : ℕ → Bool) (xs ys : List ℕ) → some f (xs ++ ys) ≡ (some f xs || some f ys)
some-append = list_any-append

-- a list asked number by number: the rest of it tells what the whole does
module _ (p : ℕ → Bool) (xs : List ℕ) (i : ℕ) (whole : Bool) (inv : some p (drop i xs) ≡ whole) where
  pub found : i < length xs → p (get_or xs i 0) ≡ true → whole ≡ true
  found h t = sym inv ∙ at_drop_more (some p) xs i 0 h ∙ or_left (p (get_or xs i 0)) _ t

  pub passed-by : i < length xs → p (get_or xs i 0) ≡ false → some p (drop (i + 1) xs) ≡ whole
  passed-by h f = sym (at_drop_more (some p) xs i 0 h ∙ ap (λ b. b || some p (drop (i + 1) xs)) f) ∙ inv

  pub none_found : length xs ≤ i → whole ≡ false
  none_found h = sym inv ∙ at_drop_all (some p) xs i h
