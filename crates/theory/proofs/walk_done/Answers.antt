use Rattle.theory.proofs.Walks.{walk-done}
use Rattle.theory.proofs.walk_done.Goals as goal

pub returns : goal.returns
returns c = walk-done
