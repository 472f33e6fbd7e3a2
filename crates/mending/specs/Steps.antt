-- The steps of mending: what each does to the two tables, and what it counts.
use Rattle.std.specs.Prelude.{◌≡◌, ℕ, ◌+◌, ◌*◌, ◌<◌, ◌≤◌, Bool, not, ◌&&◌, T, ◌≢◌, List, slice_index}
use Rattle.theory.specs.Maps.{Map}
use Rattle.theory.specs.Chains.{On}
use Rattle.theory.specs.Counts.{sum_below, count}
use Rattle.theory.specs.Ranks.{rank_in}
use Rattle.theory.specs.Labels.{is_in_label}
use Rattle.theory.specs.Rows.{Rows, Right, RightBefore}
use Rattle.theory.specs.Turns.{Settled}
use Rattle.theory.specs.Sizes.{one_of}
use Rattle.labels.specs.declared.Holders.{Holders}
use Rattle.labels.specs.declared.Labels.{Labels}
use Rattle.labels.specs.Holding.{holds, rows_of}

-- Two tables as the rows of a map: of its own in-rows and out-rows or, the other way round, of those of the turned map.
abbrev pub rows : Holders → Holders → Rows
rows ins outs = record { ins = holds ins; outs = holds outs }

-- By how many members the sets of one table differ from those of another.
unfoldable pub difference : (ℕ → ℕ → Bool) → (ℕ → ℕ → Bool) → ℕ
difference old new = sum_below (λ u. count (λ v. one_of (old u v) (new u v))) 256

-- By how many members the two tables of labels differ from those of others.
abbrev pub changed : Labels → Labels → ℕ
changed old new = difference (holds old.ins) (holds new.ins) + difference (holds old.outs) (holds new.outs)

-- The set is the in-row of u, where the rows of all higher units are right.
abbrev pub NewRow : Map → List ℕ → Rows → ℕ → (ℕ → Bool) → Type 0
NewRow m order before u row = RightBefore m order before u → (v : ℕ) → row v ≡ is_in_label m (rank_in order) u v

-- The in-row of u was made new where u may change, and no other.
pub record Renewed (m : Map) (order : List ℕ) (u : ℕ) (may : ℕ → Bool) (ins outs new : Holders) : Type 0 where
  pub right : ((T (may u) → ⊥) → (v : ℕ) → holds ins u v ≡ is_in_label m (rank_in order) u v) → NewRow m order (rows ins outs) u (holds new u)
  pub others : (x : ℕ) → x ≢ u → (v : ℕ) → holds new x v ≡ holds ins x v

-- The rows of the first k units of the order were made new where they may change, and no others; n members came or went.
pub record RenewedTo (k : ℕ) (m : Map) (order : List ℕ) (ups downs : ℕ → Bool) (old new : Labels) (n : ℕ) : Type 0 where
  pub right : ((u : ℕ) → On u order → Settled m (rank_in order) (rows_of old) ups downs u) → (i : ℕ) → i < k → Right m (rank_in order) (rows_of new) (slice_index order i)
  pub other_ins : (x : ℕ) → ((i : ℕ) → i < k → slice_index order i ≢ x) → (v : ℕ) → holds new.ins x v ≡ holds old.ins x v
  pub other_outs : (x : ℕ) → ((i : ℕ) → i < k → slice_index order i ≢ x) → (v : ℕ) → holds new.outs x v ≡ holds old.outs x v
  pub number : n ≡ changed old new
  pub most : n ≤ 512 * k

-- The table with the sets of all units of `gone` emptied.
abbrev pub emptied : (ℕ → Bool) → (ℕ → ℕ → Bool) → ℕ → ℕ → Bool
emptied gone table x v = not (gone x) && table x v
