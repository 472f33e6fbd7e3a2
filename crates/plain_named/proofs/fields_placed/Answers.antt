use Rattle.plain_named.proofs.Places.{field_at}
use Rattle.plain_named.proofs.fields_placed.Goals as goal

pub returns : goal.returns
returns c = field_at
