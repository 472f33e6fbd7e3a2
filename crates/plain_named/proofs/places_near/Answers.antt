use Rattle.plain_named.proofs.Places.{line-near}
use Rattle.plain_named.proofs.places_near.Goals as goal

pub returns : goal.returns
returns c = line-near
