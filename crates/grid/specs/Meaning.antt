-- What a matrix stands for.
use Rattle.std.specs.Prelude.{◌≡◌, ℕ}
use Rattle.theory.specs.Maps.{Map}
use Rattle.theory.specs.Counts.{pair_count}
use Rattle.grid.specs.Rows.{map_of}
use Rattle.grid.specs.declared.matrix.Matrix.{Matrix}

abbrev pub matrix_map : Matrix → Map
matrix_map x = map_of x.units x.listeners

-- n is the number of its pairings
abbrev pub Counted : Matrix → ℕ → Type 0
Counted x n = pair_count (matrix_map x) ≡ n
