use Rattle.theory.proofs.Warshall.{hearing-decided}
use Rattle.theory.proofs.hearing_decided.Goals as goal

pub returns : goal.returns
returns c = hearing-decided
