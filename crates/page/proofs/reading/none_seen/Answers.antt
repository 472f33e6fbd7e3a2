use Rattle.std.proofs.Common.{◌≡◌, ℕ, zero, suc, false, get_or, replicate, refl}
use Rattle.page.proofs.reading.none_seen.Goals as goal

all-false : (n k : ℕ) → get_or (replicate n false) k false ≡ false
all-false zero k = refl
all-false (suc n) zero = refl
all-false (suc n) (suc k) = all-false n k

pub returns : goal.returns
returns c k = all-false 8001 k
