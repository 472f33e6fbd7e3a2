use Rattle.std.proofs.Common.{rules}
use Rattle.maps.proofs.Asked.{zero_no_source}
use Rattle.maps.proofs.Map.sources.Goals as goal

pub returns : goal.returns
returns g c = let m = g.Self.Map.meaning c.args.self.now in c.gathered.ensures (λ a. m.pair a c.args.b) (zero_no_source m c.sound.ensures c.args.b) (λ x r p. search rules)
