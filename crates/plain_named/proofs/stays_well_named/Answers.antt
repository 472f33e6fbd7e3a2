use Rattle.plain_named.proofs.Naming.{nobody-well, after-well}
use Rattle.plain_named.proofs.stays_well_named.Goals as goal

pub returns : goal.returns
returns c = record { first = nobody-well; next = after-well }
