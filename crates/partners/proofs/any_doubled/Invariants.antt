-- The units seen so far and the rest of the list tell whether one stands twice.
use Rattle.std.proofs.Common.{◌≡◌, drop}
use Rattle.units.specs.Has.{has}
use Rattle.plain.specs.Lists.{doubled}
use Rattle.partners.proofs.Found.{again}
use Rattle.partners.proofs.any_doubled.Given as goal

abbrev pub invariant-loop-u : goal.invariant-loop-u
invariant-loop-u l = again (has l.seen) (drop l.u-index l.units) ≡ doubled l.units
