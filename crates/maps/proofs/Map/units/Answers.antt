use Rattle.std.proofs.Common.{rules}
use Rattle.maps.proofs.Asked.{zero_stands_not}
use Rattle.maps.proofs.Map.units.Goals as goal

pub returns : goal.returns
returns g c = let m = g.Self.Map.meaning c.args.self.now in c.gathered.ensures m.unit (zero_stands_not m c.sound.ensures) (λ x r p. search rules)
