use Rattle.theory.proofs.Lists.{lists-told}
use Rattle.theory.proofs.lists_told.Goals as goal

pub returns : goal.returns
returns c = lists-told
