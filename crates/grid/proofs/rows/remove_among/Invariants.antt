use Rattle.grid.proofs.Removing.{Removed}
use Rattle.grid.proofs.rows.remove_among.Given as goal

-- done for the members so far
abbrev pub invariant-loop-x : goal.invariant-loop-x
invariant-loop-x l = Removed l.yielded l.y l.initial.rows l.rows
