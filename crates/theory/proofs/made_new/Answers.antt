use Rattle.theory.proofs.Whole.{made-new}
use Rattle.theory.proofs.made_new.Goals as goal

pub returns : goal.returns
returns c = made-new
