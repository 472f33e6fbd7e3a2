-- The plain book: a list of the units from rank 1 down, and a set of pairings.
use Rattle.std.specs.Prelude.{ℕ, Bool, false, List, []}
use Rattle.theory.specs.Maps.{Map, Sound, listed}
use Rattle.theory.specs.Chains.{NoRing}
use Rattle.theory.specs.Hearing.{is_heard}
use Rattle.theory.specs.Ranks.{Orders}

pub record Plain : Type 0 where
  pub order : List ℕ
  pub pair : ℕ → ℕ → Bool

-- The units of the list, with the pairings.
abbrev pub map_of : Plain → Map
map_of p = record { unit = λ u. listed u p.order; pair = p.pair }

-- The units in their order, with the pairings of a map.
abbrev pub plain_by : Map → List ℕ → Plain
plain_by m order = record { order = order; pair = m.pair }

abbrev pub empty : Plain
empty = record { order = []; pair = λ a b. false }

-- t hears s.
abbrev pub hears : Plain → ℕ → ℕ → Bool
hears p t s = is_heard (map_of p) s t

-- What holds of every plain book that requests have made: units are 1 to 255, each once in the list; pairings lead between different units; there is no ring.
pub record Lawful (p : Plain) : Type 0 where
  pub sound : Sound (map_of p)
  pub orders : Orders (map_of p) p.order
  pub ringless : NoRing (map_of p)
