use Rattle.std.proofs.Common.{◌≡◌, ℕ, not, ◌&&◌}
use Rattle.theory.specs.Maps.{listed}
use Rattle.units.specs.Has.{has}
use Rattle.sheets.specs.Sheets.{marked}
use Rattle.sheets.proofs.unmarked_of.Given as goal

-- those so far that are marked are out
abbrev pub invariant-loop-u : goal.invariant-loop-u
invariant-loop-u l = (k : ℕ) → has l.rest k ≡ (has l.set k && not (listed k l.yielded && marked l.sheet k))
