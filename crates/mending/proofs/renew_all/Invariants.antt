use Rattle.std.proofs.Common.{◌≡◌, ℕ, take}
use Rattle.theory.specs.Maps.{listed}
use Rattle.units.specs.Has.{has}
use Rattle.mending.specs.Steps.{RenewedTo}
use Rattle.mending.proofs.renew_all.Given as goal

-- the rows of the first k units are right, those from k on are the old ones, and the count is what changed in the first k;
-- these are done
abbrev pub invariant-loop-k : goal.invariant-loop-k
invariant-loop-k g l =
    RenewedTo l.k (g.M.Map.meaning l.m) l.order (has l.touched.ups) (has l.touched.downs) l.initial.labels l.labels l.total
    × ((x : ℕ) → has l.done x ≡ listed x (take l.k l.order))
