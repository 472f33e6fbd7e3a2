-- Lists picked from an order: by tests that agree on it, and in the words of the library.
use Rattle.std.proofs.Common.{◌≡◌, ℕ, filter, Some, ap, Bool, true, false, cond, List, [], ◌∷◌, refl, ap₂, inl, inr}
use Rattle.std.specs.List.{find}
use Rattle.theory.specs.Maps.{listed}
use Rattle.theory.specs.Chains.{On}
use Rattle.theory.specs.Lists.{picked, first}
use Rattle.theory.proofs.Tests.{same_tests}
use Rattle.theory.proofs.Lists.{on-picked, listed-on}

pub picked_same : (f g : ℕ → Bool) (xs : List ℕ) → ((x : ℕ) → On x xs → f x ≡ g x) → picked f xs ≡ picked g xs
picked_same f g [] e = refl
picked_same f g (x ∷ xs) e = ap₂ (λ b l. cond b (x ∷ l) l) (e x (inl refl)) (picked_same f g xs (λ y o. e y (inr o)))

-- in the library's words
pub filter-picked : (f : ℕ → Bool) (xs : List ℕ) → filter f xs ≡ picked f xs
filter-picked f [] = refl
filter-picked f (x ∷ xs) = ap (λ l. cond (f x) (x ∷ l) l) (filter-picked f xs)

pub find-picked : (f : ℕ → Bool) (xs : List ℕ) → find f xs ≡ first (picked f xs)
find-picked f [] = refl
find-picked f (x ∷ xs) = go (f x) (find-picked f xs)
  where
    go : (b : Bool) → find f xs ≡ first (picked f xs) → cond b (Some x) (find f xs) ≡ first (cond b (x ∷ picked f xs) (picked f xs))
    go true e = refl
    go false e = e

pub listed-picked : (f : ℕ → Bool) (xs : List ℕ) (x : ℕ) → On x xs → listed x (picked f xs) ≡ f x
listed-picked f xs x o =
    same_tests (listed x (picked f xs)) (f x) (λ t. ((on-picked f xs x).0 ((listed-on x (picked f xs)).0 t)).1)
    (λ t. (listed-on x (picked f xs)).1 ((on-picked f xs x).1 (o, t)))
