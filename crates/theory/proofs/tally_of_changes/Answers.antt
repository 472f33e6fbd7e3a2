use Rattle.theory.proofs.Whole.{tally-of-changes}
use Rattle.theory.proofs.tally_of_changes.Goals as goal

pub returns : goal.returns
returns c = tally-of-changes
