-- Of each unit of the list the kept labels tell it.
use Rattle.std.proofs.Common.{rules}
use Rattle.theory.specs.Hearing.{is_heard}
use Rattle.partners.proofs.Partners.hearers.Goals as goal

pub returns : goal.returns
returns c m kept stand v = c.gathered.ensures (λ u w. is_heard m u w) (λ u o set k w. let unit = stand u o in search rules) v
