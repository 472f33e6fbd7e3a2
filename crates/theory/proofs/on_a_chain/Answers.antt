use Rattle.theory.proofs.Chains.{on-a-chain}
use Rattle.theory.proofs.on_a_chain.Goals as goal

pub returns : goal.returns
returns c = on-a-chain
