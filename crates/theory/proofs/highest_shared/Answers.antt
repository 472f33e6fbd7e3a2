use Rattle.theory.proofs.Shared.{highest-shared}
use Rattle.theory.proofs.highest_shared.Goals as goal

pub returns : goal.returns
returns c = highest-shared
