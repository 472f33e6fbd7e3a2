use Rattle.theory.proofs.Chains.{heard-self}
use Rattle.theory.proofs.hearing_reflexive.Goals as goal

pub returns : goal.returns
returns c = heard-self
