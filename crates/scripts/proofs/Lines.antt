-- What is still to come after one item more.
use Rattle.std.proofs.Common.{◌≡◌, ◌+◌, List, [], ◌∷◌, length, Some, Option, arith}
use Rattle.std.specs.Iterator.{AlwaysYields}

pub one_more : {S A B : Type 0} (steps : S → Option A → S → Type 0) (v : A → B) (ys : List B) (s : S) (x : A) (t : S) → AlwaysYields steps v s ys → steps s (Some x) t → (zs : List B) × AlwaysYields steps v t zs × (length ys ≡ length zs + 1)
one_more steps v [] s x t h k = absurd (h x t k)
one_more steps v (y ∷ zs) s x t h k = (zs, (h.1 x t k).1, omega arith)
