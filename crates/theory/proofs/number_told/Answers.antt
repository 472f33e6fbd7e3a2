use Rattle.theory.proofs.Sizes.{number-told}
use Rattle.theory.proofs.number_told.Goals as goal

pub returns : goal.returns
returns c = number-told
