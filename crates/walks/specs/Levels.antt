-- The next level of a search.
use Rattle.std.specs.Prelude.{◌≡◌, ℕ, Bool, true, false}
use Rattle.theory.specs.Maps.{Map}

-- The next level is every unit that a unit of the level is paired to and that was not seen.
pub record Next (m : Map) (level seen next : ℕ → Bool) : Type 0 where
  pub from : (k : ℕ) → next k ≡ true → (j : ℕ) × (level j ≡ true) × (m.pair j k ≡ true)
  pub new : (k : ℕ) → next k ≡ true → seen k ≡ false
  pub every : (j k : ℕ) → level j ≡ true → m.pair j k ≡ true → seen k ≡ false → next k ≡ true

-- The set has every unit that a unit of the other is paired to, and no other.
pub record Listeners (m : Map) (of set : ℕ → Bool) : Type 0 where
  pub only : (k : ℕ) → set k ≡ true → (j : ℕ) × (of j ≡ true) × (m.pair j k ≡ true)
  pub every : (j k : ℕ) → of j ≡ true → m.pair j k ≡ true → set k ≡ true
