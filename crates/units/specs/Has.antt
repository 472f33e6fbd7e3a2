-- The members of a set of unit numbers.
use Rattle.std.specs.Prelude.{ℕ, Bool, List, [], slice_index_or}
use Rattle.units.specs.Bit.{member}
use Rattle.units.specs.declared.UnitSet.{UnitSet}

-- k is in the set; no number past 255 is.
abbrev pub has : UnitSet → ℕ → Bool
has s k = member s.words k

-- What a read past the end of a list of sets gives: a set with no members.
abbrev pub blank : UnitSet
blank = record { words = [] }

-- In a list of sets, one for each number: y is in the set of x.
abbrev pub in_row : List UnitSet → ℕ → ℕ → Bool
in_row rows x y = has (slice_index_or rows x blank) y
