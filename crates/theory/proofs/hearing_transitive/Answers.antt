use Rattle.theory.proofs.Chains.{heard-trans}
use Rattle.theory.proofs.hearing_transitive.Goals as goal

pub returns : goal.returns
returns c = heard-trans
