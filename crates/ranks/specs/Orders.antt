-- The order of a rank table, what it keeps, and what is asked of it.
use Rattle.std.specs.Prelude.{◌≡◌, ℕ, ◌+◌, ◌-◌, ◌<◌, ◌≤◌, Bool, cond, not, ◌&&◌, List, length, Some, None, Option, nat_le, slice_index, slice_index_or}
use Rattle.theory.specs.Maps.{listed}
use Rattle.theory.specs.Chains.{On}
use Rattle.theory.specs.Ranks.{rank_in, Once}

-- What holds of every order: its units are numbers from 1 to 255, and none stands twice.
pub record Lawful (order : List ℕ) : Type 0 where
  pub low : (u : ℕ) → On u order → 1 ≤ u
  pub high : (u : ℕ) → On u order → u ≤ 255
  pub once : Once order

-- u is a unit's number that is not in the order.
abbrev pub is_new : List ℕ → ℕ → Bool
is_new order u = nat_le 1 u && not (listed u order)

-- The rank of u, where u is in the order.
abbrev pub rank_found : List ℕ → ℕ → Option ℕ
rank_found order u = cond (listed u order) (Some (rank_in order u)) None

-- What a table keeps: its order is lawful, and each number has the rank that it has in the order.
pub record Ranking (order : List ℕ) (place : List (Option ℕ)) : Type 0 where
  pub lawful : Lawful order
  pub ranked : (u : ℕ) → slice_index_or place u None ≡ rank_found order u

-- The unit at each of the first n places of the order has the rank of that place, counted from 1.
abbrev pub Numbered : List ℕ → List (Option ℕ) → ℕ → Type 0
Numbered order place n = (i : ℕ) → i < n → slice_index_or place (slice_index order i) None ≡ Some (i + 1)

-- The unit at a rank from 1 to the number of units.
abbrev pub unit_found : List ℕ → ℕ → Option ℕ
unit_found order rank = cond (nat_le 1 rank && nat_le rank (length order)) (Some (slice_index order (rank - 1))) None
