use Rattle.theory.proofs.Tables.{reached-by-tables}
use Rattle.theory.proofs.reached_by_tables.Goals as goal

pub returns : goal.returns
returns c = reached-by-tables
