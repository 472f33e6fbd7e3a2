use Rattle.theory.proofs.Shared.{cover}
use Rattle.theory.proofs.cover.Goals as goal

pub returns : goal.returns
returns c = cover
