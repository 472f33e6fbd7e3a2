use Rattle.theory.proofs.Totals.{total-counted}
use Rattle.theory.proofs.total_counted.Goals as goal

pub returns : goal.returns
returns c = total-counted
