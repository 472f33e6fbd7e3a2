use Rattle.theory.proofs.Frames.{rank-frame}
use Rattle.theory.proofs.rank_frame.Goals as goal

pub returns : goal.returns
returns c = rank-frame
