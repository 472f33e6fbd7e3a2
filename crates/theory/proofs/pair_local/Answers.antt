use Rattle.theory.proofs.Local.{pair-local}
use Rattle.theory.proofs.pair_local.Goals as goal

pub returns : goal.returns
returns c = pair-local
