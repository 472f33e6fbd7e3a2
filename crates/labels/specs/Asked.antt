-- What kept labels are asked for.
use Rattle.std.specs.Prelude.{ℕ, Bool, false, ◌&&◌, ◌||◌, List, [], ◌∷◌, ◌==◌}
use Rattle.theory.specs.Maps.{Map, Sound}
use Rattle.theory.specs.Ranks.{Orders}
use Rattle.labels.specs.declared.Labels.{Labels}
use Rattle.labels.specs.Holding.{holds, Exact}

-- The map is sound, the order has its units, and the labels kept are those of the map in this order.
pub record Kept (m : Map) (order : List ℕ) (l : Labels) : Type 0 where
  pub sound : Sound m
  pub orders : Orders m order
  pub exact : Exact m order l

-- w is s or has s among its out-holders, and it is t or has t among its in-holders.
abbrev pub sharing : Labels → ℕ → ℕ → ℕ → Bool
sharing l s t w = (w == s || holds l.outs w s) && (w == t || holds l.ins w t)

-- By the two tables: some w of the list has u among its out-holders, and it is y or has y among its in-holders.
abbrev pub covered : (ℕ → ℕ → Bool) → (ℕ → ℕ → Bool) → List ℕ → ℕ → ℕ → Bool
covered ins outs [] u y = false
covered ins outs (w ∷ ws) u y = (outs w u && (y == w || ins w y)) || covered ins outs ws u y
