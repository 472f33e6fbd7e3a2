-- Maps: which numbers are units, and which unit is paired to which; and the maps that a change or a layer makes of one.
use Rattle.std.specs.Prelude.{ℕ, ◌≤◌, Bool, false, not, ◌&&◌, ◌||◌, T, ◌≢◌, List, [], ◌∷◌, ◌==◌, nat_eq}

pub record Map : Type 0 where
  pub unit : ℕ → Bool
  -- the first is paired to the second: the second plays what the first sends
  pub pair : ℕ → ℕ → Bool

-- What holds of every map: units are numbers from 1 to 255, and a pairing leads from a unit to another one. Rings are allowed.
pub record Sound (m : Map) : Type 0 where
  pub low : (u : ℕ) → T (m.unit u) → 1 ≤ u
  pub high : (u : ℕ) → T (m.unit u) → u ≤ 255
  pub from : (a b : ℕ) → T (m.pair a b) → T (m.unit a)
  pub to : (a b : ℕ) → T (m.pair a b) → T (m.unit b)
  pub apart : (a b : ℕ) → T (m.pair a b) → a ≢ b

-- No unit and no pairing.
abbrev pub nothing : Map
nothing = record { unit = λ k. false; pair = λ x y. false }

-- The unit u besides, unpaired.
abbrev pub with_unit : ℕ → Map → Map
with_unit u m = record { unit = λ k. (k == u) || m.unit k; pair = m.pair }

-- The pairing of a to b besides.
abbrev pub with_pair : ℕ → ℕ → Map → Map
with_pair a b m = record { unit = m.unit; pair = λ x y. (x == a && y == b) || m.pair x y }

-- All but the pairing of a to b.
abbrev pub without_pair : ℕ → ℕ → Map → Map
without_pair a b m = record { unit = m.unit; pair = λ x y. not (x == a && y == b) && m.pair x y }

-- All but the marked units and the pairings from and to them.
abbrev pub hidden : (ℕ → Bool) → Map → Map
hidden marked m = record {
  unit = λ k. not (marked k) && m.unit k;
  pair = λ x y. not (marked x) && (not (marked y) && m.pair x y);
}

-- All but the unit u and its pairings.
abbrev pub without_unit : ℕ → Map → Map
without_unit u m = hidden (λ k. nat_eq k u) m

-- Every pairing reversed.
abbrev pub turned : Map → Map
turned m = record { unit = m.unit; pair = λ x y. m.pair y x }

-- x stands in the list.
abbrev pub listed : ℕ → List ℕ → Bool
listed x [] = false
listed x (y ∷ ys) = x == y || listed x ys

-- The unit v besides, each of its sources paired to it and it to each of its listeners.
abbrev pub enrolled : ℕ → List ℕ → List ℕ → Map → Map
enrolled v sources listeners m = record {
  unit = λ k. (k == v) || m.unit k;
  pair = λ x y. ((listed x sources && y == v) || (x == v && listed y listeners)) || m.pair x y;
}
