-- The listeners of a set of units, gathered unit by unit.
use Rattle.std.proofs.Common.{◌≡◌, ℕ, Bool, true, ◌||◌, List, [], ◌∷◌, ◌++◌, Option, None, sym, refl, ap, ◌∙◌, inl, inr}
use Rattle.std.specs.Iterator.{Yields, YieldsFirst}
use Rattle.std.proofs.lemmas.Bool.{or_cases, or_left, or_right, eqb-true, eq-eqb}
use Rattle.theory.specs.Maps.{Map, listed}
use Rattle.theory.proofs.Distinct.{listed-more}
use Rattle.units.specs.declared.UnitSet.{UnitSet}
use Rattle.units.specs.declared.members.Members.{Members}
use Rattle.units.specs.Has.{has}
use Rattle.units.specs.Listed.{left, members}
use Rattle.units.proofs.Listing.{all-listed}
use Rattle.walks.specs.Levels.{Listeners}

-- the set has the listeners of the units on the list
pub record SoFar (m : Map) (all : ℕ → Bool) (xs : List ℕ) : Type 0 where
  pub only : (k : ℕ) → all k ≡ true → (j : ℕ) × (listed j xs ≡ true) × (m.pair j k ≡ true)
  pub every : (j k : ℕ) → listed j xs ≡ true → m.pair j k ≡ true → all k ≡ true

pub more_listeners : (m : Map) (all more : UnitSet) (xs : List ℕ) (x : ℕ) → SoFar m (has all) xs → ((k : ℕ) → has more k ≡ (has all k || m.pair x k))
    → SoFar m (has more) (xs ++ x ∷ [])
more_listeners m all more xs x before joined = record {
  only = λ k t. elim (or_cases _ _ (sym (joined k) ∙ t)) [
    | inl old ↦ let (j, on, p) = before.only k old in (j, listed-more j xs x ∙ or_right _ _ on, p)
    | inr here ↦ (x, listed-more x xs x ∙ or_left _ _ (eq-eqb x x refl), here)
  ];
  every = λ j k on p. joined k ∙ elim (or_cases _ _ (sym (listed-more j xs x) ∙ on)) [
    | inl same ↦ or_right _ _ (ap (λ (z : ℕ). m.pair z k) (sym (eqb-true j x same)) ∙ p)
    | inr old ↦ or_left _ _ (before.every j k old p)
  ];
}

pub all_listeners : (m : Map) (all : ℕ → Bool) (set : UnitSet) (it : Members) → left it ≡ members set → (xs : List ℕ) (t u : Members) (r : Option ℕ)
    → Yields (YieldsFirst left) it xs t → r ≡ None → YieldsFirst left t r u → SoFar m all xs → Listeners m (has set) all
all_listeners m all set it e xs t u r so_far none step found =
    let same = all-listed set it e xs t u r so_far none step in
    record {
      only = λ k h. let (j, on, p) = found.only k h in (j, sym (same j) ∙ on, p);
      every = λ j k on p. found.every j k (same j ∙ on) p;
    }
