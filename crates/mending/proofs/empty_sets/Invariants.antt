use Rattle.labels.specs.Holding.{holds}
use Rattle.mending.proofs.Emptying.{Emptying}
use Rattle.mending.proofs.empty_sets.Given as goal

-- the sets so far are emptied, and their members counted
abbrev pub invariant-loop-u : goal.invariant-loop-u
invariant-loop-u l = Emptying l.yielded (holds l.initial.table) (holds l.table) l.total
