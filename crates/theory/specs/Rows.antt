-- Rows of labels, and what a unit covers.
-- The in-row of u has the units of which u is an in-label, its out-row those of which it is an out-label.
-- What is said here of in-rows is said of out-rows too: they are the in-rows of the turned map.
use Rattle.std.specs.Prelude.{◌≡◌, ℕ, ◌<◌, Bool, T, ◌≢◌, ◌⊎◌, List}
use Rattle.theory.specs.Maps.{Map, turned}
use Rattle.theory.specs.Chains.{On}
use Rattle.theory.specs.Ranks.{rank_in}
use Rattle.theory.specs.Labels.{OutLabel, InList, is_in_label}

-- u covers v: some out-label w of u, which is higher than u, is v or an in-label of v, so that v hears u through a higher unit.
abbrev pub Covered : Map → (ℕ → ℕ) → ℕ → ℕ → Type 0
Covered m rank u v = (w : ℕ) × OutLabel m rank w u × InList m rank w v

-- f marks what u covers, where u itself may be left out, and besides at most units that are higher than u.
pub record Marks (m : Map) (rank : ℕ → ℕ) (u : ℕ) (f : ℕ → Bool) : Type 0 where
  pub every : (x : ℕ) → x ≢ u → Covered m rank u x → T (f x)
  pub only : (x : ℕ) → T (f x) → Covered m rank u x ⊎ (rank x < rank u)

-- Two tables of rows, as a program keeps them: v is in the row of u.
pub record Rows : Type 0 where
  pub ins : ℕ → ℕ → Bool
  pub outs : ℕ → ℕ → Bool

-- The tables for the turned map.
abbrev pub turned_rows : Rows → Rows
turned_rows rows = record { ins = rows.outs; outs = rows.ins }

-- The two rows of u are those of the map and its ranks.
pub record Right (m : Map) (rank : ℕ → ℕ) (rows : Rows) (u : ℕ) : Type 0 where
  pub ins : (v : ℕ) → rows.ins u v ≡ is_in_label m rank u v
  pub outs : (v : ℕ) → rows.outs u v ≡ is_in_label (turned m) rank u v

-- The rows of all units in the order are right.
abbrev pub AllRight : Map → List ℕ → Rows → Type 0
AllRight m order rows = (u : ℕ) → On u order → Right m (rank_in order) rows u

-- The rows of all units before u are right.
abbrev pub RightBefore : Map → List ℕ → Rows → ℕ → Type 0
RightBefore m order rows u = (w : ℕ) → On w order → rank_in order w < rank_in order u → Right m (rank_in order) rows w

-- By the tables: some w before u in the order has u in its out-row, and it is v or has v in its in-row.
abbrev pub Through : List ℕ → Rows → ℕ → ℕ → Type 0
Through order rows u v = (w : ℕ) × On w order × (rank_in order w < rank_in order u) × T (rows.outs w u) × (T (rows.ins w v) ⊎ (w ≡ v))

-- As Marks, by the tables.
pub record MarksBy (order : List ℕ) (rows : Rows) (u : ℕ) (f : ℕ → Bool) : Type 0 where
  pub every : (x : ℕ) → x ≢ u → Through order rows u x → T (f x)
  pub only : (x : ℕ) → T (f x) → Through order rows u x ⊎ (rank_in order x < rank_in order u)
