use Rattle.theory.proofs.Tables.{next_row}
use Rattle.theory.proofs.next_row.Goals as goal

pub returns : goal.returns
returns c = next_row
