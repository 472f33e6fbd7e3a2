use Rattle.theory.proofs.Totals.{changed-counted}
use Rattle.theory.proofs.changed_counted.Goals as goal

pub returns : goal.returns
returns c = changed-counted
