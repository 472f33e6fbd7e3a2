use Rattle.units.proofs.Rows.{all-empty}
use Rattle.units.proofs.empty_rows.Goals as goal

pub returns : goal.returns
returns c = all-empty c.empty.result c.empty.ensures 256
