use Rattle.theory.proofs.Whole.{pair-kept}
use Rattle.theory.proofs.pair_kept.Goals as goal

pub returns : goal.returns
returns c = pair-kept
