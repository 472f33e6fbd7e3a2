use Rattle.theory.proofs.Enrols.{enrol-area}
use Rattle.theory.proofs.enrol_area.Goals as goal

pub returns : goal.returns
returns c = enrol-area
