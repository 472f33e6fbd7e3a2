use Rattle.theory.proofs.Whole.{rank-kept}
use Rattle.theory.proofs.rank_kept.Goals as goal

pub returns : goal.returns
returns c = rank-kept
