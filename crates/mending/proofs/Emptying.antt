-- The sets of some units emptied one after another.
use Rattle.std.proofs.Common.{◌≡◌, ℕ, ◌+◌, ◌*◌, ◌≤◌, Bool, false, cond, not, ◌&&◌, ◌||◌, eqb, ◌⊎◌, List, [], ◌∷◌, ◌++◌, length, sym, refl, ap, ◌∙◌, inl, inr, arith, length-append}
use Rattle.std.proofs.lemmas.Bool.{cases_eq, cond-true, cond-false, eq-eqb, ne_eqb, or_left}
use Rattle.theory.specs.Maps.{listed}
use Rattle.theory.proofs.Distinct.{listed-more}
use Rattle.mending.specs.Steps.{difference, emptied}
use Rattle.mending.proofs.Differences.{difference-none, difference-both}

-- those on the list are emptied
pub record Emptying (gone : List ℕ) (old table : ℕ → ℕ → Bool) (n : ℕ) : Type 0 where
  pub sets : (x v : ℕ) → table x v ≡ emptied (λ k. listed k gone) old x v
  pub number : n ≡ difference old table
  pub most : n ≤ 256 * length gone

pub emptying-none : (table : ℕ → ℕ → Bool) → Emptying [] table table 0
emptying-none table = record { sets = λ x v. refl; number = sym (difference-none table); most = omega arith }

-- the next one, u
module _ (gone : List ℕ) (u : ℕ) (fresh : listed u gone ≡ false)
    (old table new : ℕ → ℕ → Bool) (none : ℕ → Bool) (empty : (v : ℕ) → none v ≡ false) (n k : ℕ)
    (replaced : (x v : ℕ) → new x v ≡ cond (eqb x u) (none v) (table x v)) (count : k ≡ difference table new) (few : k ≤ 256)
    (done : Emptying gone old table n) where
  other : (x : ℕ) → (x ≡ u → ⊥) → (v : ℕ) → new x v ≡ table x v
  other x ne v = replaced x v ∙ cond-false (eqb x u) (none v) (table x v) (ne_eqb x u ne)

  at : (x v : ℕ) → (x ≡ u) ⊎ (x ≡ u → ⊥) → new x v ≡ emptied (λ j. listed j (gone ++ u ∷ [])) old x v
  at x v (inl e) =
      replaced x v ∙ cond-true (eqb x u) (none v) (table x v) (eq-eqb x u e) ∙ empty v
      ∙ sym (ap (λ (b : Bool). not b && old x v) (listed-more x gone u ∙ or_left _ _ (eq-eqb x u e)))
  at x v (inr ne) =
      other x ne v ∙ done.sets x v ∙ ap (λ (b : Bool). not b && old x v) (sym (listed-more x gone u ∙ ap (λ (b : Bool). b || listed x gone) (ne_eqb x u ne)))

  turn : (x : ℕ) → (x ≡ u) ⊎ (x ≡ u → ⊥) → ((v : ℕ) → table x v ≡ old x v) ⊎ ((v : ℕ) → new x v ≡ table x v)
  turn x (inl e) = inl (λ v. done.sets x v ∙ ap (λ (b : Bool). not b && old x v) (ap (λ (z : ℕ). listed z gone) e ∙ fresh))
  turn x (inr ne) = inr (other x ne)

  pub emptying-more : Emptying (gone ++ u ∷ []) old new (n + k)
  emptying-more = record {
    sets = λ x v. at x v (cases_eq x u);
    number = let a = done.number in let sum = difference-both old table new (λ x. turn x (cases_eq x u)) in omega arith;
    most = let a = done.most in let l = length-append gone (u ∷ []) in omega arith;
  }

-- no unit is left
pub emptying-all : (gone : ℕ → Bool) (us : List ℕ) → ((k : ℕ) → listed k us ≡ gone k) → (old table : ℕ → ℕ → Bool) (n : ℕ) → Emptying us old table n →
    (x v : ℕ) → table x v ≡ emptied gone old x v
emptying-all gone us all old table n done x v = done.sets x v ∙ ap (λ (b : Bool). not b && old x v) (all x)
