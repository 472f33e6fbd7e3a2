-- A list of sets that are all empty.
use Rattle.std.proofs.Common.{◌≡◌, ℕ, zero, suc, false, replicate}
use Rattle.units.specs.declared.UnitSet.{UnitSet}
use Rattle.units.specs.Has.{has, in_row}
use Rattle.units.proofs.Words.{member-blank}

pub all-empty : (s : UnitSet) → ((k : ℕ) → has s k ≡ false) → (n : ℕ) → (x y : ℕ) → in_row (replicate n s) x y ≡ false
all-empty s e zero x y = member-blank y
all-empty s e (suc n) zero y = e y
all-empty s e (suc n) (suc x) y = all-empty s e n x y
