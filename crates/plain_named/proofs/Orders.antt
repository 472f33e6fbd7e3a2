-- Which units stand in an order after a change of it.
use Rattle.std.proofs.Common.{◌≡◌, ℕ, zero, suc, Bool, true, false, cond, not, ◌&&◌, ◌||◌, eqb, ◌⊎◌, List, [], ◌∷◌, sym, refl, ap, ◌∙◌, inl, inr}
use Rattle.std.proofs.lemmas.Bool.{eqb-true, eq-eqb, ne_eqb, cases_eq, cond-true, cond-false}
use Rattle.theory.specs.Maps.{listed}
use Rattle.theory.specs.Ranks.{inserted, removed, moved}

or_swap : (a b c : Bool) → (a || (b || c)) ≡ (b || (a || c))
or_swap true true c = refl
or_swap true false c = refl
or_swap false true c = refl
or_swap false false c = refl

and-false : (a : Bool) → (a && false) ≡ false
and-false true = refl
and-false false = refl

pub listed-inserted : (u v k : ℕ) (xs : List ℕ) → listed u (inserted k v xs) ≡ (eqb u v || listed u xs)
listed-inserted u v zero xs = refl
listed-inserted u v (suc k) [] = refl
listed-inserted u v (suc k) (x ∷ xs) = ap (λ (b : Bool). eqb u x || b) (listed-inserted u v k xs) ∙ or_swap (eqb u x) (eqb u v) (listed u xs)

pub listed-removed : (u v : ℕ) (xs : List ℕ) → listed u (removed v xs) ≡ (not (eqb u v) && listed u xs)
listed-removed u v [] = sym (and-false (not (eqb u v)))
listed-removed u v (x ∷ xs) = go (listed-removed u v xs) (cases_eq x v)
  where
    same : (a b : Bool) → (not a && b) ≡ (not a && (a || b))
    same true b = refl
    same false b = refl

    apart : (a c b : Bool) → (a ≡ true → c ≡ false) → (c || (not a && b)) ≡ (not a && (c || b))
    apart true c b h = ap (λ (t : Bool). t || false) (h refl)
    apart false c b h = refl

    go : listed u (removed v xs) ≡ (not (eqb u v) && listed u xs) → (x ≡ v) ⊎ (x ≡ v → ⊥) → listed u (cond (eqb x v) (removed v xs) (x ∷ removed v xs)) ≡ (not (eqb u v) && (eqb u x || listed u xs))
    go rest (inl e) =
        ap (listed u) (cond-true (eqb x v) (removed v xs) (x ∷ removed v xs) (eq-eqb x v e)) ∙
        (rest ∙ (same (eqb u v) (listed u xs) ∙ ap (λ (k : ℕ). not (eqb u v) && (eqb u k || listed u xs)) (sym e)))
    go rest (inr other) =
        ap (listed u) (cond-false (eqb x v) (removed v xs) (x ∷ removed v xs) (ne_eqb x v other)) ∙
        (ap (λ (b : Bool). eqb u x || b) rest ∙ apart (eqb u v) (eqb u x) (listed u xs) (λ t. ne_eqb u x (λ e. other (sym e ∙ eqb-true u v t))))

-- a unit of the order that is moved
pub listed-moved : (u v k : ℕ) (xs : List ℕ) → listed v xs ≡ true → listed u (moved k v xs) ≡ listed u xs
listed-moved u v k xs h = listed-inserted u v k (removed v xs) ∙ (ap (λ (b : Bool). eqb u v || b) (listed-removed u v xs) ∙ go (cases_eq u v))
  where
    go : (u ≡ v) ⊎ (u ≡ v → ⊥) → (eqb u v || (not (eqb u v) && listed u xs)) ≡ listed u xs
    go (inl e) = ap (λ (b : Bool). b || (not b && listed u xs)) (eq-eqb u v e) ∙ sym (ap (λ (k : ℕ). listed k xs) e ∙ h)
    go (inr other) = ap (λ (b : Bool). b || (not b && listed u xs)) (ne_eqb u v other)
