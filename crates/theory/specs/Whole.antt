-- Each change with the routine after it: all rows are right again, and the changed labels are counted.
use Rattle.std.specs.Prelude.{◌≡◌, ℕ, ◌+◌, Bool, not, ◌&&◌, T, ◌≢◌, ◌⊎◌, ◌↔◌, List, [], ◌∷◌, ◌==◌}
use Rattle.theory.specs.Maps.{Map, Sound, with_pair, without_pair, without_unit, enrolled}
use Rattle.theory.specs.Chains.{On, Heard}
use Rattle.theory.specs.Counts.{count}
use Rattle.theory.specs.Ranks.{inserted, removed, moved, Once, Orders}
use Rattle.theory.specs.Lists.{labels_changed}
use Rattle.theory.specs.Rows.{Rows, AllRight}
use Rattle.theory.specs.Changes.{New}
use Rattle.theory.specs.Turns.{turn, relabel}
use Rattle.theory.specs.Sizes.{rows_changed}

-- The members by which the two rows of each unit differ before and after its turn, summed over the turns.
unfoldable pub tally : Map → List ℕ → (ℕ → Bool) → (ℕ → Bool) → List ℕ → Rows → ℕ
tally m order a d [] rows = 0
tally m order a d (u ∷ us) rows = rows_changed rows (turn m order a d u rows) (u ∷ []) + tally m order a d us (turn m order a d u rows)

-- The tally is by how much the rows differ before and after the routine.
abbrev pub TallyOfChanges : Type 0
TallyOfChanges =
    (m : Map) (order : List ℕ) (a d : ℕ → Bool) (rows : Rows) → Once order →
    tally m order a d order rows ≡ rows_changed rows (relabel m order a d order rows) order

-- The tables with the rows of x emptied.
abbrev pub emptied : ℕ → Rows → Rows
emptied x rows = record {
  ins = λ u v. not (u == x) && rows.ins u v;
  outs = λ u v. not (u == x) && rows.outs u v;
}

-- From the map m in the one order to the map n in the other: the routine over the sets a and d makes all rows right, and tallies the changed labels.
pub record Kept (m : Map) (order : List ℕ) (n : Map) (after : List ℕ) (a d : ℕ → Bool) (rows : Rows) : Type 0 where
  pub right : AllRight n after (relabel n after a d after rows)
  pub counted : tally n after a d after rows ≡ labels_changed m order n after

-- In what follows a and d are the two sets of the change, as tests.
abbrev pub PairKept : Type 0
PairKept =
    (m : Map) → Sound m → (order : List ℕ) → Orders m order → (rows : Rows) → AllRight m order rows → (x y : ℕ) → T (m.unit x) →
    T (m.unit y) → x ≢ y → (a d : ℕ → Bool) → ((u : ℕ) → T (a u) ↔ Heard m u x) → ((v : ℕ) → T (d v) ↔ Heard m y v) →
    Kept m order (with_pair x y m) order a d rows

abbrev pub UnpairKept : Type 0
UnpairKept =
    (m : Map) → Sound m → (order : List ℕ) → Orders m order → (rows : Rows) → AllRight m order rows → (x y : ℕ) →
    (a d : ℕ → Bool) → ((u : ℕ) → T (a u) ↔ Heard m u x) → ((v : ℕ) → T (d v) ↔ Heard m y v) →
    Kept m order (without_pair x y m) order a d rows

abbrev pub RankKept : Type 0
RankKept =
    (m : Map) → Sound m → (order : List ℕ) → Orders m order → (rows : Rows) → AllRight m order rows → (x : ℕ) → T (m.unit x) →
    (k : ℕ) → (a d : ℕ → Bool) → ((u : ℕ) → T (a u) ↔ Heard m u x) → ((v : ℕ) → T (d v) ↔ Heard m x v) →
    Kept m order m (moved k x order) a d rows

-- Both rows of the new unit are empty before.
abbrev pub EnrolKept : Type 0
EnrolKept =
    (m : Map) → Sound m → (order : List ℕ) → Orders m order → (rows : Rows) → AllRight m order rows → (x : ℕ) (sources listeners : List ℕ) →
    New m x sources listeners → ((v : ℕ) → (T (rows.ins x v) → ⊥) × (T (rows.outs x v) → ⊥)) → (k : ℕ) → (a d : ℕ → Bool) →
    ((u : ℕ) → T (a u) ↔ ((u ≡ x) ⊎ ((s : ℕ) × On s sources × Heard m u s))) →
    ((v : ℕ) → T (d v) ↔ ((v ≡ x) ⊎ ((t : ℕ) × On t listeners × Heard m t v))) →
    Kept m order (enrolled x sources listeners m) (inserted k x order) a d rows

-- The rows of the dropped unit are counted before, and emptied.
abbrev pub DropKept : Type 0
DropKept =
    (m : Map) → Sound m → (order : List ℕ) → Orders m order → (rows : Rows) → AllRight m order rows → (x : ℕ) → T (m.unit x) →
    (a d : ℕ → Bool) → ((u : ℕ) → T (a u) ↔ Heard m u x) → ((v : ℕ) → T (d v) ↔ Heard m x v) →
    AllRight (without_unit x m) (removed x order) (relabel (without_unit x m) (removed x order) a d (removed x order) (emptied x rows)) ×
    (count (rows.ins x) + count (rows.outs x) + tally (without_unit x m) (removed x order) a d (removed x order) (emptied x rows)
    ≡ labels_changed m order (without_unit x m) (removed x order))

-- From nothing: over all units, whatever the tables held.
abbrev pub MadeNew : Type 0
MadeNew =
    (m : Map) → Sound m → (order : List ℕ) → Orders m order → (rows : Rows) (a : ℕ → Bool) → ((u : ℕ) → On u order → T (a u)) →
    AllRight m order (relabel m order a a order rows)
