use Rattle.std.proofs.Common.{rules}
use Rattle.maps.proofs.Asked.{zero_not_listening}
use Rattle.maps.proofs.Map.listeners.Goals as goal

pub returns : goal.returns
returns g c = let m = g.Self.Map.meaning c.args.self.now in c.gathered.ensures (m.pair c.args.a) (zero_not_listening m c.sound.ensures c.args.a) (λ x r p. search rules)
