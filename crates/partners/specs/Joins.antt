-- Pairings that go into a map one after the other, one for each unit of a list.
use Rattle.std.specs.Prelude.{◌≡◌, ℕ, ◌+◌, ◌<◌, ◌≤◌, false, T, ◌≢◌, List, [], ◌∷◌, length}
use Rattle.theory.specs.Maps.{Map, with_pair}
use Rattle.theory.specs.Chains.{On}
use Rattle.theory.specs.Counts.{pair_count}
use Rattle.plain.specs.Lists.{doubled}

-- For each unit of the list, the pairing that belongs to it besides: of the first of the two units to the second.
abbrev pub joined : (ℕ → ℕ × ℕ) → List ℕ → Map → Map
joined p [] m = m
joined p (u ∷ us) m = joined p us (with_pair (p u).0 (p u).1 m)

-- What a call for a unit gives is the pairing that belongs to it.
abbrev pub Gives : (ℕ → ℕ × ℕ → Type 0) → (ℕ → ℕ × ℕ) → Type 0
Gives post p = (u : ℕ) → u < 256 → (q : ℕ × ℕ) → post u q → q ≡ p u

-- Different units have different pairings.
abbrev pub Differing : (ℕ → ℕ × ℕ) → Type 0
Differing p = (u w : ℕ) → (p u).0 ≡ (p w).0 → (p u).1 ≡ (p w).1 → u ≡ w

-- They lead between different units, none is there yet or stands twice, and there is room for all of them.
pub record Joinable (room : ℕ) (p : ℕ → ℕ × ℕ) (us : List ℕ) (m : Map) : Type 0 where
  pub from : (u : ℕ) → On u us → T (m.unit (p u).0)
  pub to : (u : ℕ) → On u us → T (m.unit (p u).1)
  pub apart : (u : ℕ) → On u us → (p u).0 ≢ (p u).1
  pub free : (u : ℕ) → On u us → m.pair (p u).0 (p u).1 ≡ false
  pub once : doubled us ≡ false
  pub fits : pair_count m + length us ≤ room
