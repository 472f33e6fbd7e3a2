use Rattle.theory.proofs.Frames.{pair-area}
use Rattle.theory.proofs.pair_area.Goals as goal

pub returns : goal.returns
returns c = pair-area
