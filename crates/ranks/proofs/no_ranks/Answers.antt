-- Every place of an array of nothing reads as nothing, and so does what lies past it.
use Rattle.ranks.proofs.Whole.{nones}
use Rattle.ranks.proofs.no_ranks.Goals as goal

pub returns : goal.returns
returns c u = nones 256 u
