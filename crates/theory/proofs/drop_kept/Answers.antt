use Rattle.theory.proofs.Whole.{drop-kept}
use Rattle.theory.proofs.drop_kept.Goals as goal

pub returns : goal.returns
returns c = drop-kept
