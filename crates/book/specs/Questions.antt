-- What a question is told, in the subject's own words.
use Rattle.std.specs.Prelude.{ℕ, List, Ok, Err, Option, Result}
use Rattle.theory.specs.Maps.{Map}
use Rattle.theory.specs.Chains.{FewestOrNone}
use Rattle.plain.specs.declared.BookFault.{BookFault}
use Rattle.plain.specs.Plain.{Plain}
use Rattle.plain.specs.Placing.{Best}
use Rattle.places.specs.declared.place.Place.{Place}

-- What reach tells is the fewest pairings over chains, or that there is no chain.
abbrev pub ByFewest : Map → ℕ → ℕ → Result (Option ℕ) BookFault → Type 0
ByFewest m s t (Ok told) = FewestOrNone m s t told
ByFewest m s t (Err cause) = Unit {0}

-- A rank and a total, as a place.
abbrev pub place_by : ℕ × ℕ → Place
place_by told = record { rank = told.0; total = told.1 }

-- What best place tells is the best rank, and the number of labels there.
abbrev pub ByBest : Plain → ℕ → List ℕ → List ℕ → Result Place BookFault → Type 0
ByBest p unit sources listeners (Ok place) = Best p unit sources listeners place.rank place.total
ByBest p unit sources listeners (Err cause) = Unit {0}
