use Rattle.theory.proofs.Computed.{examples}
use Rattle.theory.proofs.examples.Goals as goal

pub returns : goal.returns
returns c = examples
