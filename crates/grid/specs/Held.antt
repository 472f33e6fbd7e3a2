-- What a grid stands for.
use Rattle.theory.specs.Maps.{Map}
use Rattle.grid.specs.Meaning.{matrix_map}
use Rattle.grid.specs.declared.table.Grid.{Grid}

abbrev pub grid_map : Grid → Map
grid_map g = matrix_map g.matrix
