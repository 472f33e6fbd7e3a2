-- The map that a list of sets stands for, and what the sets of a matrix keep.
use Rattle.std.specs.Prelude.{◌≡◌, ℕ, true, false, List}
use Rattle.units.specs.declared.UnitSet.{UnitSet}
use Rattle.units.specs.Has.{has, in_row}
use Rattle.theory.specs.Maps.{Map}

-- x is paired to y where y is in the set of x's listeners
abbrev pub map_of : UnitSet → List UnitSet → Map
map_of units listeners = record { unit = has units; pair = in_row listeners }

-- 0 is no unit
abbrev pub NoZero : UnitSet → Type 0
NoZero units = has units 0 ≡ false

-- what has a listener is a unit
abbrev pub FromStands : UnitSet → List UnitSet → Type 0
FromStands units listeners = (x y : ℕ) → in_row listeners x y ≡ true → has units x ≡ true

-- what listens is a unit
abbrev pub ToStands : UnitSet → List UnitSet → Type 0
ToStands units listeners = (x y : ℕ) → in_row listeners x y ≡ true → has units y ≡ true

-- none listens to itself
abbrev pub Apart : List UnitSet → Type 0
Apart listeners = (x : ℕ) → in_row listeners x x ≡ false

-- the sets of the sources tell the same pairings
abbrev pub TurnedRows : List UnitSet → List UnitSet → Type 0
TurnedRows listeners sources = (x y : ℕ) → in_row sources y x ≡ in_row listeners x y
