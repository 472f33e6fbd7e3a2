use Rattle.theory.proofs.Local.{enrol-local}
use Rattle.theory.proofs.enrol_local.Goals as goal

pub returns : goal.returns
returns c = enrol-local
