-- The rest of the list can be joined, and with it the whole is done.
use Rattle.std.proofs.Common.{◌≡◌, ℕ, drop}
use Rattle.partners.specs.Joins.{Gives, joined}
use Rattle.partners.proofs.Joins.{Joining}
use Rattle.partners.proofs.joining.join_all.Given as goal

abbrev pub invariant-loop-u : goal.invariant-loop-u
invariant-loop-u g l =
    ((p : ℕ → ℕ × ℕ) × Gives (λ u q. goal.F-post g l.ends u q) p × Joining g.S.Store.room p (drop l.u-index l.units) (g.S.Map.meaning l.store))
    × ((p : ℕ → ℕ × ℕ) → Gives (λ u q. goal.F-post g l.ends u q) p → joined p (drop l.u-index l.units) (g.S.Map.meaning l.store) ≡ joined p l.units (g.S.Map.meaning l.initial.store))
