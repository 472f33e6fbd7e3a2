use Rattle.std.proofs.Common.{◌≡◌, ◌*◌, ◌≤◌}
use Rattle.theory.specs.Counts.{sum_below, listener_count}
use Rattle.maps.proofs.copy.pairings_of.Given as goal

abbrev pub invariant-loop-a : goal.invariant-loop-a
invariant-loop-a g l = (l.total ≡ sum_below (listener_count (g.M.Map.meaning l.from)) l.a) × (l.total ≤ l.a * 65535)
