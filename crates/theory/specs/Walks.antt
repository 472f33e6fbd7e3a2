-- How the rows are found from the rows of higher units: what is proved, over any map, rings included.
use Rattle.std.specs.Prelude.{◌≡◌, ℕ, Bool, T, ◌≢◌, ◌⊎◌, ◌↔◌, List}
use Rattle.theory.specs.Maps.{Map, Sound, turned, hidden}
use Rattle.theory.specs.Chains.{Heard}
use Rattle.theory.specs.Ranks.{rank_in, Orders}
use Rattle.theory.specs.Labels.{InLabel, OutLabel, InList, OutList, Highest}
use Rattle.theory.specs.Rows.{Covered, Marks, Rows, AllRight, RightBefore, Through, MarksBy}

-- Of two units u is an in-label of v exactly when it is the highest unit on the chains from u to v, and v an out-label of u exactly when v is the highest.
abbrev pub LabelAtAnEnd : Type 0
LabelAtAnEnd =
    (m : Map) → Sound m → (order : List ℕ) → Orders m order → (u v : ℕ) → u ≢ v →
    (InLabel m (rank_in order) u v ↔ Highest m (rank_in order) u v u) × (OutLabel m (rank_in order) v u ↔ Highest m (rank_in order) u v v)

-- Where v hears u some unit is the highest on the chains from u to v; and it is u or an out-label of u, and v or an in-label of v.
abbrev pub HighestListed : Type 0
HighestListed =
    (m : Map) → Sound m → (order : List ℕ) → Orders m order → (u v : ℕ) →
    (Heard m u v → (h : ℕ) × Highest m (rank_in order) u v h) ×
    ((h : ℕ) → Highest m (rank_in order) u v h → OutList m (rank_in order) h u × InList m (rank_in order) h v)

-- What hears u is u, its in-row and what it covers.
abbrev pub ReachedByRows : Type 0
ReachedByRows =
    (m : Map) → Sound m → (order : List ℕ) → Orders m order → (u v : ℕ) → T (m.unit u) →
    Heard m u v ↔ ((v ≡ u) ⊎ (InLabel m (rank_in order) u v ⊎ Covered m (rank_in order) u v))

-- The in-row of u is what hears u, without u and what it covers.
abbrev pub RowByCover : Type 0
RowByCover =
    (m : Map) → Sound m → (order : List ℕ) → Orders m order → (u v : ℕ) →
    InLabel m (rank_in order) u v ↔ ((u ≢ v) × Heard m u v × (Covered m (rank_in order) u v → ⊥))

-- The in-row of u is what hears u where the marked units are hidden.
abbrev pub RowByWalk : Type 0
RowByWalk =
    (m : Map) → Sound m → (order : List ℕ) → Orders m order → (u v : ℕ) → u ≢ v → (f : ℕ → Bool) → Marks m (rank_in order) u f →
    InLabel m (rank_in order) u v ↔ Heard (hidden f m) u v

-- Hidden and turned, in either order.
abbrev pub HiddenTurned : Type 0
HiddenTurned = (f : ℕ → Bool) (m : Map) → hidden f (turned m) ≡ turned (hidden f m)

-- A walk from u is done when its set has u and the listeners of all its members: it has all that hear u.
abbrev pub WalkDone : Type 0
WalkDone =
    (m : Map) (u : ℕ) (seen : ℕ → Bool) → T (seen u) → ((x y : ℕ) → T (seen x) → T (m.pair x y) → T (seen y)) →
    (v : ℕ) → Heard m u v → T (seen v)

-- Where the rows of all units before u are right, the walk from u that hides what the tables mark gives the in-row of u.
abbrev pub NextRow : Type 0
NextRow =
    (m : Map) → Sound m → (order : List ℕ) → Orders m order → (rows : Rows) (u : ℕ) → RightBefore m order rows u →
    (f : ℕ → Bool) → MarksBy order rows u f → (v : ℕ) → InLabel m (rank_in order) u v ↔ ((u ≢ v) × Heard (hidden f m) u v)

-- By right tables, what hears u is u, its in-row and what the tables lead to through a unit before u.
abbrev pub ReachedByTables : Type 0
ReachedByTables =
    (m : Map) → Sound m → (order : List ℕ) → Orders m order → (rows : Rows) → AllRight m order rows → (u v : ℕ) → T (m.unit u) →
    Heard m u v ↔ ((v ≡ u) ⊎ (T (rows.ins u v) ⊎ Through order rows u v))
