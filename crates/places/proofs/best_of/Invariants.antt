-- The best of the ranks below is kept.
use Rattle.std.proofs.Common.{◌≡◌, ◌+◌, ◌-◌}
use Rattle.plain.specs.Placing.{best_from}
use Rattle.places.specs.Trials.{trial, told_of}
use Rattle.places.proofs.best_of.Given as goal

-- the best of the ranks from the one after k on
abbrev pub invariant-loop-k : goal.invariant-loop-k
invariant-loop-k g l = told_of l.best ≡ best_from (trial (g.M.Map.meaning l.m) l.v l.ranks) (l.k + 1) (l.n - l.k)
