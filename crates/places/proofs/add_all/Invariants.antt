-- The units stay, and what is left of the list gives the whole.
use Rattle.std.proofs.Common.{◌≡◌, ℕ, drop}
use Rattle.grid.specs.Meaning.{matrix_map}
use Rattle.partners.specs.Joins.{Gives, joined}
use Rattle.places.specs.Trials.{Addable}
use Rattle.places.proofs.add_all.Given as goal

abbrev pub invariant-loop-u : goal.invariant-loop-u
invariant-loop-u g l =
    ((p : ℕ → ℕ × ℕ) × Gives (λ u q. goal.F-post g l.ends u q) p × Addable p l.units (matrix_map l.initial.map))
    × ((k : ℕ) → (matrix_map l.map).unit k ≡ (matrix_map l.initial.map).unit k)
    × ((p : ℕ → ℕ × ℕ) → Gives (λ u q. goal.F-post g l.ends u q) p → joined p (drop l.u-index l.units) (matrix_map l.map) ≡ joined p l.units (matrix_map l.initial.map))
