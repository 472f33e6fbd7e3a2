use Rattle.theory.proofs.Rings.{rings-kept-out}
use Rattle.theory.proofs.rings_kept_out.Goals as goal

pub returns : goal.returns
returns c = rings-kept-out
