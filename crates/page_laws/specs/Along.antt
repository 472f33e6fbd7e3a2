-- A chain on the way: the records behind, and the one that comes next.
use Rattle.std.specs.Prelude.{◌≡◌, ℕ, ◌≤◌, Bool, ◌≢◌, List, [], ◌∷◌, ◌++◌}
use Rattle.theory.specs.Maps.{listed}
use Rattle.theory.specs.Ranks.{Once}
use Rattle.plain.specs.Lists.{numbers, each}
use Rattle.plain.specs.Pages.{record_count, first_of, listener_in, next_of, chains}
use Rattle.page_laws.specs.Parts.{Marked}

-- From the record f the records of the list follow in turn, and then comes r.
abbrev pub Trace : List ℕ → ℕ → List ℕ → ℕ → Type 0
Trace page f [] r = f ≡ r
Trace page f (x ∷ xs) r = (x ≡ f) × (f ≢ 0) × Trace page (next_of page f) xs r

-- The chain of the unit i has been followed over the records of the list, up to r; `row` has their listeners.
pub record Along (page : List ℕ) (i : ℕ) (seen : List Bool) (row : ℕ → Bool) (r : ℕ) (list : List ℕ) : Type 0 where
  pub trace : Trace page (first_of page i) list r
  pub small : r ≤ record_count page
  pub marked : Marked page seen (chains page (numbers 0 i) ++ list)
  pub listeners : (k : ℕ) → row k ≡ listed k (each (listener_in page) list)
  pub differ : Once (each (listener_in page) list)
