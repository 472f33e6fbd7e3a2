use Rattle.std.proofs.Common.{◌≡◌}
use Rattle.maps.specs.Copies.{rows_below}
use Rattle.maps.proofs.copy.join_rows.Given as goal

abbrev pub invariant-loop-a : goal.invariant-loop-a
invariant-loop-a g l = g.S.Map.meaning l.into ≡ rows_below l.a (g.M.Map.meaning l.from)
