use Rattle.std.proofs.Common.{◌≡◌}
use Rattle.maps.proofs.Copies.{rows_on}
use Rattle.maps.proofs.copy.join_row.Given as goal

abbrev pub invariant-loop-b : goal.invariant-loop-b
invariant-loop-b g l = g.S.Map.meaning l.into ≡ rows_on l.a l.yielded (g.M.Map.meaning l.from)
