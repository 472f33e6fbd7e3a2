use Rattle.theory.proofs.Walks.{hidden-turned}
use Rattle.theory.proofs.hidden_turned.Goals as goal

pub returns : goal.returns
returns c = hidden-turned
