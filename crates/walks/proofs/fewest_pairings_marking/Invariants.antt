use Rattle.std.proofs.Common.{◌≡◌}
use Rattle.units.specs.Has.{has}
use Rattle.walks.proofs.Walked.{left}
use Rattle.walks.proofs.Levels.{Level}
use Rattle.walks.proofs.fewest_pairings_marking.Given as goal

abbrev pub invariant-loop-level : goal.invariant-loop-level
invariant-loop-level g l =
    Level (g.M.Map.meaning l.m) l.s l.t l.n (g.K.Marks.marked l.seen) (has l.level)
    × (g.K.Marks.below l.seen ≡ g.K.Marks.below l.initial.seen)

abbrev pub decreases-loop-level : goal.decreases-loop-level
decreases-loop-level g l = left (g.K.Marks.marked l.seen) (has l.level)
