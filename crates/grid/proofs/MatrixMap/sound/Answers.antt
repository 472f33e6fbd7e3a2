use Rattle.grid.proofs.Kept.{sound-of}
use Rattle.grid.proofs.MatrixMap.sound.Goals as goal

pub returns : goal.returns
returns c = sound-of c.args.self.now
