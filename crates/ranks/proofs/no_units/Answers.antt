-- Every place of an array of zeros reads 0, and so does what lies past it.
use Rattle.ranks.proofs.Whole.{zeros}
use Rattle.ranks.proofs.no_units.Goals as goal

pub returns : goal.returns
returns c = zeros 255
