-- The rank is one more than the place in front of it.
use Rattle.std.proofs.Common.{◌+◌, ap}
use Rattle.places.proofs.Trying.{at-rank}
use Rattle.places.proofs.place_at.Goals as goal

pub returns : goal.returns
returns g c = ap (λ t. (c.args.k + 1, t)) (at-rank (g.M.Map.meaning c.args.m.now) c.args.v c.args.ranks.now c.args.k c.total_at.result c.total_at.ensures)
