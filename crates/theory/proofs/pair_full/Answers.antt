use Rattle.theory.proofs.Frames.{pair-full}
use Rattle.theory.proofs.pair_full.Goals as goal

pub returns : goal.returns
returns c = pair-full
