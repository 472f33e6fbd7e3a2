use Rattle.std.proofs.Common.{ap, ◌∙◌, arith}
use Rattle.theory.specs.Counts.{pair_count}
use Rattle.theory.proofs.Counting.{pair-count-none}
use Rattle.grid.proofs.table.Grid.new.Goals as goal

pub invariant_of-result : goal.invariant_of-result
invariant_of-result c = record { counted = ap pair_count c.new.ensures ∙ pair-count-none; within = omega arith }
