use Rattle.std.proofs.Common.{◌≡◌}
use Rattle.maps.proofs.Copies.{units_on}
use Rattle.maps.proofs.copy.put_units.Given as goal

abbrev pub invariant-loop-u : goal.invariant-loop-u
invariant-loop-u g l = g.S.Map.meaning l.into ≡ units_on l.yielded
