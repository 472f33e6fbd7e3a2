use Rattle.plain_named.proofs.Known.{never-unknown}
use Rattle.plain_named.proofs.never_unknown.Goals as goal

pub returns : goal.returns
returns c = never-unknown
