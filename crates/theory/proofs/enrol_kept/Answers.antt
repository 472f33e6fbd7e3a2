use Rattle.theory.proofs.Whole.{enrol-kept}
use Rattle.theory.proofs.enrol_kept.Goals as goal

pub returns : goal.returns
returns c = enrol-kept
