use Rattle.theory.proofs.Walks.{reached-by-rows}
use Rattle.theory.proofs.reached_by_rows.Goals as goal

pub returns : goal.returns
returns c = reached-by-rows
