-- A new unit tried at each rank of an order.
use Rattle.std.specs.Prelude.{◌≡◌, ℕ, ◌-◌, ◌<◌, ◌≤◌, false, cond, T, ◌≢◌, List, length, nat_le}
use Rattle.theory.specs.Chains.{On}
use Rattle.theory.specs.Maps.{Map, listed}
use Rattle.theory.specs.Ranks.{inserted, Orders}
use Rattle.theory.specs.Lists.{total}
use Rattle.places.specs.declared.place.Place.{Place}

-- v is a unit of the map that is new to the order, which finds a place for it at each rank.
pub record Triable (m : Map) (v : ℕ) (order : List ℕ) : Type 0 where
  pub low : 1 ≤ v
  pub absent : listed v order ≡ false
  pub fits : length order < 255
  pub orders : (k : ℕ) → Orders m (inserted k v order)

-- The total of labels of the map, in the order with v put in at the rank.
abbrev pub trial : Map → ℕ → List ℕ → ℕ → ℕ
trial m v order rank = total m (inserted (rank - 1) v order)

-- A place as a rank and a total.
abbrev pub told_of : Place → ℕ × ℕ
told_of p = (p.rank, p.total)

-- The one or the other place: the one with the smaller total, the first of equals.
abbrev pub smaller : ℕ × ℕ → ℕ × ℕ → ℕ × ℕ
smaller a b = cond (nat_le a.1 b.1) a b

-- The pairing of each unit of the list leads between different units of the map.
abbrev pub Addable : (ℕ → ℕ × ℕ) → List ℕ → Map → Type 0
Addable p us m = (u : ℕ) → On u us → T (m.unit (p u).0) × T (m.unit (p u).1) × ((p u).0 ≢ (p u).1)
