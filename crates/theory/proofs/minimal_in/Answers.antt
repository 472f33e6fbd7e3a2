use Rattle.theory.proofs.Shared.{minimal-in}
use Rattle.theory.proofs.minimal_in.Goals as goal

pub returns : goal.returns
returns c = minimal-in
