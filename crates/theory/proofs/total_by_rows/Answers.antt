use Rattle.theory.proofs.Totals.{total-by-rows}
use Rattle.theory.proofs.total_by_rows.Goals as goal

pub returns : goal.returns
returns c = total-by-rows
