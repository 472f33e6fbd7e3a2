use Rattle.theory.proofs.Local.{rank-local}
use Rattle.theory.proofs.rank_local.Goals as goal

pub returns : goal.returns
returns c = rank-local
