use Rattle.theory.proofs.Turns.{row-by-sets}
use Rattle.theory.proofs.row_by_sets.Goals as goal

pub returns : goal.returns
returns c = row-by-sets
