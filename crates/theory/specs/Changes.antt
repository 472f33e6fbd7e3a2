-- What a change of a map or of its order leaves of the labels: what is proved.
use Rattle.std.specs.Prelude.{◌≡◌, ℕ, suc, ◌≤◌, T, ◌≢◌, ◌⊎◌, ◌↔◌, List, [], length}
use Rattle.theory.specs.Maps.{Map, Sound, nothing, with_pair, without_pair, without_unit, enrolled}
use Rattle.theory.specs.Chains.{On, Heard}
use Rattle.theory.specs.Ranks.{rank_in, inserted, removed, moved, Orders}
use Rattle.theory.specs.Labels.{InLabel, OutLabel}
use Rattle.theory.specs.Lists.{in_labels, out_labels, in_holders, out_holders}

-- From the one map and its ranks to the other, the labels between u and v stay: u as an in-label of v, and v as an out-label of u.
abbrev pub Stay : Map → (ℕ → ℕ) → Map → (ℕ → ℕ) → ℕ → ℕ → Type 0
Stay m rank n rate u v = (InLabel m rank u v ↔ InLabel n rate u v) × (OutLabel m rank v u ↔ OutLabel n rate v u)

-- Only labels between a unit of A and a unit of D change.
abbrev pub Frame : Map → (ℕ → ℕ) → Map → (ℕ → ℕ) → (ℕ → Type 0) → (ℕ → Type 0) → Type 0
Frame m rank n rate A D = (u v : ℕ) → (A u → D v → ⊥) → Stay m rank n rate u v

-- v is no unit yet, and its sources and listeners are units.
pub record New (m : Map) (v : ℕ) (sources listeners : List ℕ) : Type 0 where
  pub low : 1 ≤ v
  pub high : v ≤ 255
  pub fresh : T (m.unit v) → ⊥
  pub from : (s : ℕ) → On s sources → T (m.unit s)
  pub to : (t : ℕ) → On t listeners → T (m.unit t)

-- The map of nothing is sound, and a change leaves a sound map and an order of it.
pub record ChangesSound : Type 0 where
  pub none : Sound nothing
  pub none_orders : Orders nothing []
  pub pair : (m : Map) → Sound m → (a b : ℕ) → T (m.unit a) → T (m.unit b) → a ≢ b → Sound (with_pair a b m)
  pub unpair : (m : Map) → Sound m → (a b : ℕ) → Sound (without_pair a b m)
  pub drop : (m : Map) → Sound m → (v : ℕ) → Sound (without_unit v m)
  pub drop_orders : (m : Map) (order : List ℕ) → Orders m order → (v : ℕ) → Orders (without_unit v m) (removed v order)
  pub enrol : (m : Map) → Sound m → (v : ℕ) (sources listeners : List ℕ) → New m v sources listeners → Sound (enrolled v sources listeners m)
  pub enrol_orders : (m : Map) (order : List ℕ) → Orders m order → (v : ℕ) (sources listeners : List ℕ) → (T (m.unit v) → ⊥) → (k : ℕ) → Orders (enrolled v sources listeners m) (inserted k v order)
  pub enrol_rank : (m : Map) (order : List ℕ) → Orders m order → (v : ℕ) → (T (m.unit v) → ⊥) → (k : ℕ) → k ≤ length order → rank_in (inserted k v order) v ≡ suc k
  pub rank_orders : (m : Map) (order : List ℕ) → Orders m order → (v : ℕ) → T (m.unit v) → (k : ℕ) → Orders m (moved k v order)
  pub rank_rank : (order : List ℕ) (v k : ℕ) → k ≤ length (removed v order) → rank_in (moved k v order) v ≡ suc k

-- A pairing of a to b that is added: only labels between what a hears and what hears b change.
abbrev pub PairFrame : Type 0
PairFrame =
    (m : Map) → Sound m → (a b : ℕ) → T (m.unit a) → T (m.unit b) → a ≢ b → (rank : ℕ → ℕ) →
    Frame m rank (with_pair a b m) rank (λ u. Heard m u a) (λ v. Heard m b v)

-- And where it is taken away.
abbrev pub UnpairFrame : Type 0
UnpairFrame =
    (m : Map) → Sound m → (a b : ℕ) (rank : ℕ → ℕ) → Frame m rank (without_pair a b m) rank (λ u. Heard m u a) (λ v. Heard m b v)

-- What a hears, and what hears b, is the same with the pairing of a to b and without it, in a map with rings too.
abbrev pub PairArea : Type 0
PairArea =
    (m : Map) → Sound m → (a b x : ℕ) →
    (T (m.unit a) → T (m.unit b) → a ≢ b → (Heard (with_pair a b m) x a ↔ Heard m x a) × (Heard (with_pair a b m) b x ↔ Heard m b x)) ×
    (Heard (without_pair a b m) x a ↔ Heard m x a) × (Heard (without_pair a b m) b x ↔ Heard m b x)

-- A unit v that is dropped: only labels between what it hears and what hears it change.
abbrev pub DropFrame : Type 0
DropFrame =
    (m : Map) → Sound m → (order : List ℕ) (v : ℕ) →
    Frame m (rank_in order) (without_unit v m) (rank_in (removed v order)) (λ u. Heard m u v) (λ w. Heard m v w)

-- A unit v that is enrolled: only labels between what it then hears and what then hears it.
abbrev pub EnrolFrame : Type 0
EnrolFrame =
    (m : Map) → Sound m → (order : List ℕ) → Orders m order → (v : ℕ) (sources listeners : List ℕ) → New m v sources listeners → (k : ℕ) →
    Frame m (rank_in order) (enrolled v sources listeners m) (rank_in (inserted k v order))
    (λ u. Heard (enrolled v sources listeners m) u v) (λ w. Heard (enrolled v sources listeners m) v w)

-- And that is v with what its sources hear, and v with what hears its listeners, before the change.
abbrev pub EnrolArea : Type 0
EnrolArea =
    (m : Map) → Sound m → (v : ℕ) (sources listeners : List ℕ) → New m v sources listeners → (u : ℕ) →
    (Heard (enrolled v sources listeners m) u v ↔ ((u ≡ v) ⊎ ((s : ℕ) × On s sources × Heard m u s))) ×
    (Heard (enrolled v sources listeners m) v u ↔ ((u ≡ v) ⊎ ((t : ℕ) × On t listeners × Heard m t u)))

-- A unit v that is moved in the order: only labels between what it hears and what hears it.
abbrev pub RankFrame : Type 0
RankFrame =
    (m : Map) → Sound m → (order : List ℕ) (v k : ℕ) →
    Frame m (rank_in order) m (rank_in (moved k v order)) (λ u. Heard m u v) (λ w. Heard m v w)

-- From the one map and order to the other the lists of labels, in their order, stay as they are, but for the out-labels and in-holders of a unit of A,
-- and for the in-labels and out-holders of a unit of D.
pub record Local (m : Map) (order : List ℕ) (n : Map) (after : List ℕ) (A D : ℕ → Type 0) : Type 0 where
  pub in_labels_same : (v : ℕ) → (D v → ⊥) → in_labels m order v ≡ in_labels n after v
  pub out_labels_same : (u : ℕ) → (A u → ⊥) → out_labels m order u ≡ out_labels n after u
  pub in_holders_same : (u : ℕ) → (A u → ⊥) → in_holders m order u ≡ in_holders n after u
  pub out_holders_same : (v : ℕ) → (D v → ⊥) → out_holders m order v ≡ out_holders n after v

-- A pairing of a to b, added or taken away, alters in-labels only of units that hear b, and out-labels only of units that a hears.
abbrev pub PairLocal : Type 0
PairLocal =
    (m : Map) → Sound m → (order : List ℕ) (a b : ℕ) → T (m.unit a) → T (m.unit b) → a ≢ b →
    Local m order (with_pair a b m) order (λ u. Heard m u a) (λ v. Heard m b v)

abbrev pub UnpairLocal : Type 0
UnpairLocal =
    (m : Map) → Sound m → (order : List ℕ) (a b : ℕ) →
    Local m order (without_pair a b m) order (λ u. Heard m u a) (λ v. Heard m b v)

-- A unit x that is dropped or moved alters in-labels only of units that hear it, and out-labels only of units that it hears.
abbrev pub DropLocal : Type 0
DropLocal =
    (m : Map) → Sound m → (order : List ℕ) (x : ℕ) →
    Local m order (without_unit x m) (removed x order) (λ u. Heard m u x) (λ v. Heard m x v)

abbrev pub RankLocal : Type 0
RankLocal =
    (m : Map) → Sound m → (order : List ℕ) (x k : ℕ) →
    Local m order m (moved k x order) (λ u. Heard m u x) (λ v. Heard m x v)

-- A unit x that is enrolled, only of units that then hear it, and of units that it then hears.
abbrev pub EnrolLocal : Type 0
EnrolLocal =
    (m : Map) → Sound m → (order : List ℕ) → Orders m order → (x : ℕ) (sources listeners : List ℕ) → New m x sources listeners → (k : ℕ) →
    Local m order (enrolled x sources listeners m) (inserted k x order)
    (λ u. Heard (enrolled x sources listeners m) u x) (λ v. Heard (enrolled x sources listeners m) x v)
