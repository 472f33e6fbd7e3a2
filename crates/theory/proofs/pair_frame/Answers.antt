use Rattle.theory.proofs.Frames.{pair-frame}
use Rattle.theory.proofs.pair_frame.Goals as goal

pub returns : goal.returns
returns c = pair-frame
