-- The routine that makes rows new, as a function on tables, and that it is right.
use Rattle.std.specs.Prelude.{◌≡◌, ℕ, Bool, false, cond, not, ◌&&◌, ◌||◌, T, ◌≢◌, ◌⊎◌, ◌↔◌, List, [], ◌∷◌, ◌==◌}
use Rattle.theory.specs.Maps.{Map, Sound, turned, hidden, with_pair}
use Rattle.theory.specs.Chains.{On, Heard}
use Rattle.theory.specs.Hearing.{is_heard}
use Rattle.theory.specs.Ranks.{rank_in, Orders}
use Rattle.theory.specs.Labels.{InLabel, is_in_label}
use Rattle.theory.specs.Rows.{Covered, Rows, Right, AllRight, turned_rows}
use Rattle.theory.specs.Changes.{Frame}

-- x is w or in the in-row of w, for some w before u in the list that has u in its out-row.
unfoldable pub marked : List ℕ → Rows → ℕ → ℕ → Bool
marked [] rows u x = false
marked (w ∷ ws) rows u x = cond (w == u) false ((rows.outs w u && (rows.ins w x || w == x)) || marked ws rows u x)

-- The new in-row of u: what a walk from u finds where the marked units are hidden, and not u.
unfoldable pub new_row : Map → List ℕ → Rows → ℕ → ℕ → Bool
new_row m order rows u v = not (u == v) && is_heard (hidden (marked order rows u) m) u v

-- The tables with the in-row of u made new where u is in a, and its out-row where it is in d.
unfoldable pub turn : Map → List ℕ → (ℕ → Bool) → (ℕ → Bool) → ℕ → Rows → Rows
turn m order a d u rows = record {
  ins = λ x v. cond (a u && x == u) (new_row m order rows u v) (rows.ins x v);
  outs = λ x v. cond (d u && x == u) (new_row (turned m) order (turned_rows rows) u v) (rows.outs x v);
}

-- A turn for each unit of the list.
unfoldable pub relabel : Map → List ℕ → (ℕ → Bool) → (ℕ → Bool) → List ℕ → Rows → Rows
relabel m order a d [] rows = rows
relabel m order a d (u ∷ us) rows = relabel m order a d us (turn m order a d u rows)

-- The in-row of u is right unless u is in a, and its out-row unless u is in d.
pub record Settled (m : Map) (rank : ℕ → ℕ) (rows : Rows) (a d : ℕ → Bool) (u : ℕ) : Type 0 where
  pub ins : (T (a u) → ⊥) → (v : ℕ) → rows.ins u v ≡ is_in_label m rank u v
  pub outs : (T (d u) → ⊥) → (v : ℕ) → rows.outs u v ≡ is_in_label (turned m) rank u v

-- Where the rows that it leaves alone are right, the routine makes all rows right. So with a and d of all units it makes them from nothing.
abbrev pub Relabelled : Type 0
Relabelled =
    (m : Map) → Sound m → (order : List ℕ) → Orders m order → (a d : ℕ → Bool) (rows : Rows) →
    ((u : ℕ) → On u order → Settled m (rank_in order) rows a d u) → AllRight m order (relabel m order a d order rows)

-- After a change in a frame the rows outside the two sets are right if they were before.
abbrev pub FrameSettled : Type 0
FrameSettled =
    (m : Map) → Sound m → (rank : ℕ → ℕ) (n : Map) → Sound n → (rate : ℕ → ℕ) (a d : ℕ → Bool) →
    Frame m rank n rate (λ u. T (a u)) (λ v. T (d v)) → (rows : Rows) (u : ℕ) → Right m rank rows u → Settled n rate rows a d u

-- Where after the change all of d hear all of a, no walk is needed: outside d the in-row is the old one, and in d it is all that is not covered.
abbrev pub RowBySets : Type 0
RowBySets =
    (m : Map) (rank : ℕ → ℕ) (n : Map) → Sound n → (order : List ℕ) → Orders n order → (a d : ℕ → Bool) →
    Frame m rank n (rank_in order) (λ u. T (a u)) (λ v. T (d v)) → ((u v : ℕ) → T (a u) → T (d v) → Heard n u v) → (u v : ℕ) → T (a u) →
    InLabel n (rank_in order) u v ↔ (((T (d v) → ⊥) × InLabel m rank u v) ⊎ (T (d v) × (u ≢ v) × (Covered n (rank_in order) u v → ⊥)))

-- So it is after a pairing of a to b: what hears b hears what a hears.
abbrev pub PairFull : Type 0
PairFull =
    (m : Map) → Sound m → (a b : ℕ) → T (m.unit a) → T (m.unit b) → a ≢ b → (u v : ℕ) →
    Heard m u a → Heard m b v → Heard (with_pair a b m) u v
