use Rattle.theory.proofs.Frames.{unpair-frame}
use Rattle.theory.proofs.unpair_frame.Goals as goal

pub returns : goal.returns
returns c = unpair-frame
