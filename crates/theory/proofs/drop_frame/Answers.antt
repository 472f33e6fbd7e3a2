use Rattle.theory.proofs.Frames.{drop-frame}
use Rattle.theory.proofs.drop_frame.Goals as goal

pub returns : goal.returns
returns c = drop-frame
