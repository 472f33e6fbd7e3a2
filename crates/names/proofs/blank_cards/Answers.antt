use Rattle.std.proofs.Common.{◌≡◌, ℕ, zero, suc, get_or, replicate, None, refl}
use Rattle.names.proofs.blank_cards.Goals as goal

each : {X : Type 0} (x : X) (n u : ℕ) → get_or (replicate n x) u x ≡ x
each x zero u = refl
each x (suc n) zero = refl
each x (suc n) (suc u) = each x n u

pub returns : goal.returns
returns c u = each None 256 u
