use Rattle.std.proofs.Common.{◌*◌}
use Rattle.units.proofs.Words.{Clear}
use Rattle.units.proofs.UnitSet.least_from.Given as goal

abbrev pub invariant-loop-w : goal.invariant-loop-w
invariant-loop-w l = Clear l.self.words l.from (l.w * 64)
