-- What kept labels stand for: for each unit the set of its in-holders and the set of its out-holders.
use Rattle.std.specs.Prelude.{◌≡◌, ℕ, Bool, List}
use Rattle.units.specs.Has.{in_row}
use Rattle.theory.specs.Maps.{Map, turned}
use Rattle.theory.specs.Ranks.{rank_in}
use Rattle.theory.specs.Labels.{is_in_label}
use Rattle.theory.specs.Rows.{Rows}
use Rattle.labels.specs.declared.Holders.{Holders}
use Rattle.labels.specs.declared.Labels.{Labels}

-- v is in the set of u.
abbrev pub holds : Holders → ℕ → ℕ → Bool
holds h = in_row h.sets

-- The kept labels as two tables of rows.
abbrev pub rows_of : Labels → Rows
rows_of l = record { ins = holds l.ins; outs = holds l.outs }

-- The kept labels are those of the definition for the map and its order, and no others: what is no unit holds and labels nothing.
pub record Exact (m : Map) (order : List ℕ) (l : Labels) : Type 0 where
  pub ins : (u v : ℕ) → holds l.ins u v ≡ is_in_label m (rank_in order) u v
  pub outs : (u v : ℕ) → holds l.outs u v ≡ is_in_label (turned m) (rank_in order) u v
