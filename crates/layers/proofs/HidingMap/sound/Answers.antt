use Rattle.units.specs.Has.{has}
use Rattle.theory.proofs.Maps.{hidden-sound}
use Rattle.layers.proofs.HidingMap.sound.Goals as goal

pub returns : goal.returns
returns g c = hidden-sound (has c.args.self.now.marks.set) _ c.sound.ensures
