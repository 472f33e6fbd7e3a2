use Rattle.theory.proofs.Walks.{label-at-an-end}
use Rattle.theory.proofs.label_at_an_end.Goals as goal

pub returns : goal.returns
returns c = label-at-an-end
