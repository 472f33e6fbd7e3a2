use Rattle.theory.proofs.Decide.{labels-decided}
use Rattle.theory.proofs.labels_decided.Goals as goal

pub returns : goal.returns
returns c = labels-decided
