use Rattle.theory.proofs.Enrols.{enrol-frame}
use Rattle.theory.proofs.enrol_frame.Goals as goal

pub returns : goal.returns
returns c = enrol-frame
