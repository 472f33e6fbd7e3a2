-- The set so far and the rest of the order have the units of the whole.
use Rattle.std.proofs.Common.{◌≡◌, ℕ, ◌||◌, drop}
use Rattle.units.specs.Has.{has}
use Rattle.theory.specs.Maps.{listed}
use Rattle.page.proofs.set_of.Given as goal

abbrev pub invariant-loop-u : goal.invariant-loop-u
invariant-loop-u l = (k : ℕ) → (has l.set k || listed k (drop l.u-index l.order)) ≡ listed k l.order
