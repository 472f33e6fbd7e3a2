use Rattle.theory.proofs.Maps.{turned-sound}
use Rattle.layers.proofs.TurnedMap.sound.Goals as goal

pub returns : goal.returns
returns g c = turned-sound _ c.sound.ensures
