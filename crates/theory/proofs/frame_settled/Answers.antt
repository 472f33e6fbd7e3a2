use Rattle.theory.proofs.Turns.{frame-settled}
use Rattle.theory.proofs.frame_settled.Goals as goal

pub returns : goal.returns
returns c = frame-settled
