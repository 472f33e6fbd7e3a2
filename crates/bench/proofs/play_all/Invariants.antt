use Rattle.grid.specs.Held.{grid_map}
use Rattle.book.specs.Views.{Whole}
use Rattle.bench.proofs.play_all.Given as goal

abbrev pub invariant-loop-change : goal.invariant-loop-change
invariant-loop-change l = Whole grid_map l.book
