-- The laws of hearing and of labels, each statement named by a function's contract.
use Rattle.std.specs.Prelude.{◌≡◌, ℕ, T, ◌↔◌, List, ◌∷◌, Some, None}
use Rattle.theory.specs.Maps.{Map, Sound, turned}
use Rattle.theory.specs.Chains.{Chain, On, Heard}
use Rattle.theory.specs.Hearing.{is_heard}
use Rattle.theory.specs.Ranks.{rank_in, Orders, removed}
use Rattle.theory.specs.Labels.{InLabel, OutLabel, InList, OutList, InListBut, OutListBut, Highest, is_in_label}
use Rattle.theory.specs.Lists.{ListOf, in_labels, out_labels, in_holders, out_holders, shares, highest_shared}

-- A test decides hearing, with rings too.
abbrev pub HearingDecided : Type 0
HearingDecided = (m : Map) → Sound m → (s t : ℕ) → T (is_heard m s t) ↔ Heard m s t

-- A unit hears itself.
abbrev pub HearingReflexive : Type 0
HearingReflexive = (m : Map) (u : ℕ) → T (m.unit u) → Heard m u u

-- What hears x hears what x hears.
abbrev pub HearingTransitive : Type 0
HearingTransitive = (m : Map) (s x t : ℕ) → Heard m s x → Heard m x t → Heard m s t

-- w stands on some chain from u to v exactly when w hears u and v hears w.
abbrev pub OnAChain : Type 0
OnAChain = (m : Map) → Sound m → (u w v : ℕ) → ((c : List ℕ) × Chain m u v c × On w c) ↔ (Heard m u w × Heard m w v)

-- A test decides the in-labels, and in the turned map the out-labels.
abbrev pub LabelsDecided : Type 0
LabelsDecided =
    (m : Map) → Sound m → (rank : ℕ → ℕ) (u v : ℕ) →
    (T (is_in_label m rank u v) ↔ InLabel m rank u v) × (T (is_in_label (turned m) rank u v) ↔ OutLabel m rank u v)

-- Each of the four lists of a unit has exactly the units that the definition gives, ascending in rank, none twice.
abbrev pub ListsTold : Type 0
ListsTold =
    (m : Map) → Sound m → (order : List ℕ) → Orders m order → (v : ℕ) →
    ListOf (λ u. InLabel m (rank_in order) u v) (rank_in order) (in_labels m order v) ×
    ListOf (λ u. OutLabel m (rank_in order) u v) (rank_in order) (out_labels m order v) ×
    ListOf (λ w. InLabel m (rank_in order) v w) (rank_in order) (in_holders m order v) ×
    ListOf (λ w. OutLabel m (rank_in order) v w) (rank_in order) (out_holders m order v)

-- s with its out-labels and t with its in-labels have a unit in common exactly when t hears s: as sets, and as lists.
abbrev pub Cover : Type 0
Cover =
    (m : Map) → Sound m → (order : List ℕ) → Orders m order → (s t : ℕ) → T (m.unit s) → T (m.unit t) →
    (((x : ℕ) × OutList m (rank_in order) x s × InList m (rank_in order) x t) ↔ Heard m s t) ×
    (T (shares (s ∷ out_labels m order s) (t ∷ in_labels m order t)) ↔ Heard m s t)

-- The highest unit that the two share is the highest unit on any chain from s to t, both ends included; there is none exactly when t does not hear s.
abbrev pub HighestShared : Type 0
HighestShared =
    (m : Map) → Sound m → (order : List ℕ) → Orders m order → (s t : ℕ) → T (m.unit s) → T (m.unit t) →
    ((h : ℕ) → (highest_shared m order s t ≡ Some h) ↔ Highest m (rank_in order) s t h) ×
    ((highest_shared m order s t ≡ None) ↔ (Heard m s t → ⊥))

-- No label can be struck. Without the in-label u, the in-list of v shares none with the out-list of u, although v hears u: as sets, and as lists.
abbrev pub MinimalIn : Type 0
MinimalIn =
    (m : Map) → Sound m → (order : List ℕ) → Orders m order → (u v : ℕ) → InLabel m (rank_in order) u v →
    Heard m u v × ((x : ℕ) → OutList m (rank_in order) x u → InListBut m (rank_in order) u x v → ⊥) ×
    (T (shares (u ∷ out_labels m order u) (v ∷ removed u (in_labels m order v))) → ⊥)

-- Without the out-label u, the out-list of v shares none with the in-list of u, although u hears v.
abbrev pub MinimalOut : Type 0
MinimalOut =
    (m : Map) → Sound m → (order : List ℕ) → Orders m order → (u v : ℕ) → OutLabel m (rank_in order) u v →
    Heard m v u × ((x : ℕ) → OutListBut m (rank_in order) u x v → InList m (rank_in order) x u → ⊥) ×
    (T (shares (v ∷ removed u (out_labels m order v)) (u ∷ in_labels m order u)) → ⊥)
