-- Sets gathered from a list: what is found so far and what the rest of the list adds are the whole.
use Rattle.std.proofs.Common.{◌≡◌, ℕ, ◌+◌, ◌<◌, ◌≤◌, Bool, true, false, ◌&&◌, ◌||◌, List, [], ◌∷◌, length, get_or, drop, sym, refl, ap, ◌∙◌}
use mathlib.Core.Bool.{or-false, or_assoc}
use Rattle.std.proofs.lemmas.List.{at_drop_more, at_drop_all}
use Rattle.std.proofs.lemmas.Bool.{false≢true}

-- F: whether a list adds the number; g: whether one of it does
module _ (F : List ℕ → Bool) (g : ℕ → Bool) (none : F [] ≡ false) (more : (x : ℕ) (xs : List ℕ) → F (x ∷ xs) ≡ (g x || F xs))
    (xs : List ℕ) (i : ℕ) (all whole : Bool) (inv : (all || F (drop i xs)) ≡ whole) where
  pub gathered-more : (new : Bool) → new ≡ (all || g (get_or xs i 0)) → i < length xs → (new || F (drop (i + 1) xs)) ≡ whole
  gathered-more new e h =
      ap (λ b. b || F (drop (i + 1) xs)) e
      ∙ or_assoc all (g (get_or xs i 0)) (F (drop (i + 1) xs))
      ∙ ap (λ b. all || b) (sym (at_drop_more F xs i 0 h ∙ more (get_or xs i 0) (drop (i + 1) xs)))
      ∙ inv

  pub gathered-end : length xs ≤ i → all ≡ whole
  gathered-end h = sym (or-false all) ∙ ap (λ b. all || b) (sym (at_drop_all F xs i h ∙ none)) ∙ inv

-- what adds nothing
pub skipped : (a o z : Bool) → o ≡ false → a ≡ (a || (o && z))
skipped a true z h = absurd (false≢true (sym h))
skipped a false z h = sym (or-false a)

-- what adds z
pub joined : (a o z : Bool) → o ≡ true → (a || z) ≡ (a || (o && z))
joined a true z h = refl
joined a false z h = absurd (false≢true h)
