use Rattle.units.specs.Has.{has}
use Rattle.walks.proofs.Listening.{SoFar}
use Rattle.walks.proofs.listeners_of.Given as goal

abbrev pub invariant-loop-x : goal.invariant-loop-x
invariant-loop-x g l = SoFar (g.M.Map.meaning l.m) (has l.all) l.yielded
