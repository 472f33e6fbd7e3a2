-- The pairings of a page, unit by unit.
use Rattle.std.specs.Prelude.{ℕ, Bool, ◌&&◌, List, ◌==◌}
use Rattle.theory.specs.Maps.{listed}
use Rattle.plain.specs.Lists.{some, numbers, each}
use Rattle.plain.specs.Pages.{unit_in, listener_in, unit_chain}

-- By the chain of the unit record j, a is paired to b.
abbrev pub by_unit : List ℕ → ℕ → ℕ → ℕ → Bool
by_unit page a b j = unit_in page j == a && listed b (each (listener_in page) (unit_chain page j))

-- By the chain of one of the first i units, a is paired to b.
abbrev pub paired_by : List ℕ → ℕ → ℕ → ℕ → Bool
paired_by page i a b = some (by_unit page a b) (numbers 0 i)
