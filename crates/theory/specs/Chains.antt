-- Chains, and what a unit hears.
use Rattle.std.specs.Prelude.{◌≡◌, ℕ, suc, ◌+◌, ◌≤◌, T, ◌⊎◌, List, [], ◌∷◌, length, Some, None, Option}
use Rattle.theory.specs.Maps.{Map}

-- From the unit s the units of the list follow in turn, each paired to the next, and the last of all is t.
abbrev pub Onward : Map → ℕ → List ℕ → ℕ → Type 0
Onward m s [] t = s ≡ t
Onward m s (x ∷ xs) t = T (m.pair s x) × Onward m x xs t

-- A chain from s to t: a list with the unit s first and t last, each paired to the next.
-- The list that holds only s is a chain from s to s.
abbrev pub Chain : Map → ℕ → ℕ → List ℕ → Type 0
Chain m s t [] = ⊥
Chain m s t (x ∷ xs) = (x ≡ s) × T (m.unit s) × Onward m s xs t

-- w stands in the list.
abbrev pub On : ℕ → List ℕ → Type 0
On w [] = ⊥
On w (x ∷ xs) = (w ≡ x) ⊎ On w xs

-- s is heard by t: there is a chain from s to t.
abbrev pub Heard : Map → ℕ → ℕ → Type 0
Heard m s t = (c : List ℕ) × Chain m s t c

-- A ring: a chain of one or more pairings that comes back to its first unit.
abbrev pub Ring : Map → ℕ → List ℕ → Type 0
Ring m u c = Chain m u u c × (2 ≤ length c)

abbrev pub NoRing : Map → Type 0
NoRing m = (u : ℕ) (c : List ℕ) → Ring m u c → ⊥

-- n is the fewest pairings on any chain from s to t; a chain has one pairing less than units.
pub record Fewest (m : Map) (s t n : ℕ) : Type 0 where
  pub some : (c : List ℕ) × Chain m s t c × (length c ≡ suc n)
  pub none : (c : List ℕ) → Chain m s t c → suc n ≤ length c

-- The fewest pairings on any chain, or that there is none.
-- Some n: some chain has n pairings, and none has fewer. None: there is no chain.
abbrev pub FewestOrNone : Map → ℕ → ℕ → Option ℕ → Type 0
FewestOrNone m s t (Some n) = ((c : List ℕ) × Chain m s t c × (length c ≡ n + 1)) × ((c : List ℕ) → Chain m s t c → n + 1 ≤ length c)
FewestOrNone m s t None = (c : List ℕ) → Chain m s t c → ⊥
