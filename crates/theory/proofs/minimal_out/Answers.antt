use Rattle.theory.proofs.Shared.{minimal-out}
use Rattle.theory.proofs.minimal_out.Goals as goal

pub returns : goal.returns
returns c = minimal-out
