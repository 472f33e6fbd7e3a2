-- The table holds the units so far.
use Rattle.std.proofs.Common.{◌≡◌}
use Rattle.plain.specs.Lists.{numbers, each}
use Rattle.plain.specs.Pages.{unit_in}
use Rattle.page.proofs.reading.read_units.Given as goal

abbrev pub invariant-loop-i : goal.invariant-loop-i
invariant-loop-i l = l.ranks ≡ each (unit_in l.page) (numbers 0 l.i)
