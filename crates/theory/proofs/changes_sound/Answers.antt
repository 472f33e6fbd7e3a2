use Rattle.theory.proofs.Enrols.{changes-sound}
use Rattle.theory.proofs.changes_sound.Goals as goal

pub returns : goal.returns
returns c = changes-sound
