-- A map on its way into a store: its units, and some of its pairings.
use Rattle.std.specs.Prelude.{ℕ, false, ◌&&◌, nat_lt}
use Rattle.theory.specs.Maps.{Map}

-- The units, with no pairing.
abbrev pub unpaired : Map → Map
unpaired m = record { unit = m.unit; pair = λ x y. false }

-- The units, and the pairings that lead from those below a.
abbrev pub rows_below : ℕ → Map → Map
rows_below a m = record { unit = m.unit; pair = λ x y. nat_lt x a && m.pair x y }
