use Rattle.units.specs.Has.{has}
use Rattle.walks.proofs.Walked.{Walked, left}
use Rattle.walks.proofs.heard_from.Given as goal

abbrev pub invariant-loop-level : goal.invariant-loop-level
invariant-loop-level g l = Walked (g.M.Map.meaning l.m) l.s (has l.seen) (has l.level)

abbrev pub decreases-loop-level : goal.decreases-loop-level
decreases-loop-level g l = left (has l.seen) (has l.level)
