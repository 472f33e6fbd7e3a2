use Rattle.std.proofs.Common.{◌≡◌, ℕ, ◌+◌, ◌-◌, Bool, false, Option}
use Rattle.units.specs.Has.{has}
use Rattle.units.specs.Sets.{Least}
use Rattle.maps.proofs.Asked.{Gathered}
use Rattle.maps.proofs.gathering.gathered.Given as goal

abbrev pub invariant-loop-u : goal.invariant-loop-u
invariant-loop-u g l = (f : ℕ → Bool) → f 0 ≡ false → ((c : ℕ) (r : Option ℕ) → goal.F-post g l.least_above c r → Least f (c + 1) r) → Gathered (has l.all) l.c f

abbrev pub decreases-loop-u : goal.decreases-loop-u
decreases-loop-u g l = 255 - l.c
