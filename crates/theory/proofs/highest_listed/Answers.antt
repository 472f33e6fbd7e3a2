use Rattle.theory.proofs.Walks.{highest-listed}
use Rattle.theory.proofs.highest_listed.Goals as goal

pub returns : goal.returns
returns c = highest-listed
