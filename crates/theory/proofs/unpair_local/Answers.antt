use Rattle.theory.proofs.Local.{unpair-local}
use Rattle.theory.proofs.unpair_local.Goals as goal

pub returns : goal.returns
returns c = unpair-local
