use Rattle.theory.proofs.Local.{drop_local}
use Rattle.theory.proofs.drop_local.Goals as goal

pub returns : goal.returns
returns c = drop_local
