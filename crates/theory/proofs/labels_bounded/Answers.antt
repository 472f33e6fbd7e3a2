use Rattle.theory.proofs.Bounds.{labels-bounded}
use Rattle.theory.proofs.labels_bounded.Goals as goal

pub returns : goal.returns
returns c = labels-bounded
