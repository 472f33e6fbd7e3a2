-- The table holds the units so far.
use Rattle.std.proofs.Common.{◌≡◌, take}
use Rattle.ranks.proofs.Ranks.from_slice.Given as goal

abbrev pub invariant-loop-u : goal.invariant-loop-u
invariant-loop-u l = l.ranks ≡ take l.u-index l.units
