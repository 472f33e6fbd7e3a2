-- Ranks: a list of the units, each once. The first has rank 1, and a smaller rank is higher.
use Rattle.std.specs.Prelude.{ℕ, zero, suc, cond, T, List, [], ◌∷◌, ◌==◌}
use Rattle.theory.specs.Maps.{Map}
use Rattle.theory.specs.Chains.{On}

-- The rank of u: its place in the list, counted from 1.
abbrev pub rank_in : List ℕ → ℕ → ℕ
rank_in [] u = 1
rank_in (x ∷ xs) u = cond (u == x) 1 (suc (rank_in xs u))

-- No number stands twice in the list.
abbrev pub Once : List ℕ → Type 0
Once [] = Unit {0}
Once (x ∷ xs) = (On x xs → ⊥) × Once xs

-- The list holds exactly the units of the map, each once.
pub record Orders (m : Map) (order : List ℕ) : Type 0 where
  pub every : (u : ℕ) → T (m.unit u) → On u order
  pub only : (u : ℕ) → On u order → T (m.unit u)
  pub once : Once order

-- The list with v put in after its first k numbers, so at rank k + 1; or last, where it has no more than k.
abbrev pub inserted : ℕ → ℕ → List ℕ → List ℕ
inserted zero v xs = v ∷ xs
inserted (suc k) v [] = v ∷ []
inserted (suc k) v (x ∷ xs) = x ∷ inserted k v xs

-- The list without v.
abbrev pub removed : ℕ → List ℕ → List ℕ
removed v [] = []
removed v (x ∷ xs) = cond (x == v) (removed v xs) (x ∷ removed v xs)

-- The list with v taken out and put back after the first k of the others.
abbrev pub moved : ℕ → ℕ → List ℕ → List ℕ
moved k v xs = inserted k v (removed v xs)
