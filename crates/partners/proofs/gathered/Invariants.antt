-- What is found so far and what belongs to the rest of the list is the whole.
use Rattle.std.proofs.Common.{◌≡◌, ℕ, Bool, ◌||◌, drop}
use Rattle.units.specs.Has.{has}
use Rattle.units.specs.declared.UnitSet.{UnitSet}
use Rattle.theory.specs.Chains.{On}
use Rattle.plain.specs.Lists.{some}
use Rattle.partners.proofs.gathered.Given as goal

abbrev pub invariant-loop-u : goal.invariant-loop-u
invariant-loop-u g l =
    (f : ℕ → ℕ → Bool) → ((u : ℕ) → On u l.units → (set : UnitSet) → goal.F-post g l.of u set → (v : ℕ) → has set v ≡ f u v) → (v : ℕ)
    → (has l.all v || some (λ u. f u v) (drop l.u-index l.units)) ≡ some (λ u. f u v) l.units
