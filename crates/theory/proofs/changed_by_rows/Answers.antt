use Rattle.theory.proofs.Totals.{changed-by-rows}
use Rattle.theory.proofs.changed_by_rows.Goals as goal

pub returns : goal.returns
returns c = changed-by-rows
