use Rattle.theory.proofs.Turns.{relabelled}
use Rattle.theory.proofs.relabelled.Goals as goal

pub returns : goal.returns
returns c = relabelled
