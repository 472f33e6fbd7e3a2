use Rattle.theory.proofs.Whole.{unpair-kept}
use Rattle.theory.proofs.unpair_kept.Goals as goal

pub returns : goal.returns
returns c = unpair-kept
