-- How many labels there are, and how many a change makes or ends.
use Rattle.std.specs.Prelude.{◌≡◌, ℕ, ◌+◌, ◌≤◌, Bool, not, ◌&&◌, ◌||◌, T, ◌⊎◌, ◌↔◌, List, [], ◌∷◌, length}
use Rattle.theory.specs.Maps.{Map, Sound}
use Rattle.theory.specs.Chains.{On, NoRing}
use Rattle.theory.specs.Counts.{count}
use Rattle.theory.specs.Ranks.{rank_in, Once, Orders}
use Rattle.theory.specs.Labels.{InLabel, OutLabel}
use Rattle.theory.specs.Lists.{sum, total, labels_changed}
use Rattle.theory.specs.Rows.{Rows, Right, AllRight}

-- A label: u as an in-label of v, or as an out-label of v.
pub data Label : Type 0 where
  inward : (u v : ℕ) → Label
  outward : (u v : ℕ) → Label

abbrev pub Stands : Map → (ℕ → ℕ) → Label → Type 0
Stands m rank (inward u v) = InLabel m rank u v
Stands m rank (outward u v) = OutLabel m rank u v

-- The label stands before or after, and not both.
abbrev pub Changed : Map → (ℕ → ℕ) → Map → (ℕ → ℕ) → Label → Type 0
Changed m rank n rate l = (Stands m rank l × (Stands n rate l → ⊥)) ⊎ ((Stands m rank l → ⊥) × Stands n rate l)

abbrev pub Among : Label → List Label → Type 0
Among x [] = ⊥
Among x (y ∷ ys) = (x ≡ y) ⊎ Among x ys

abbrev pub Apart : List Label → Type 0
Apart [] = Unit {0}
Apart (x ∷ xs) = (Among x xs → ⊥) × Apart xs

-- Just so many labels have the property: a list of that length has them all, each once, and no other.
pub record Number (P : Label → Type 0) (n : ℕ) : Type 0 where
  pub list : List Label
  pub every : (x : Label) → P x → Among x list
  pub only : (x : Label) → Among x list → P x
  pub apart : Apart list
  pub size : length list ≡ n

-- There is no other such number: lists that have the same labels, each once, are of the same length.
abbrev pub NumberTold : Type 0
NumberTold = (xs ys : List Label) → Apart xs → Apart ys → ((l : Label) → Among l xs ↔ Among l ys) → length xs ≡ length ys

-- The total is the number of labels.
abbrev pub TotalCounted : Type 0
TotalCounted = (m : Map) → Sound m → (order : List ℕ) → Orders m order → Number (Stands m (rank_in order)) (total m order)

-- What a change is said to alter is the number of labels that stand before or after, and not both.
abbrev pub ChangedCounted : Type 0
ChangedCounted =
    (m : Map) → Sound m → (order : List ℕ) → Orders m order → (n : Map) → Sound n → (after : List ℕ) → Orders n after →
    Number (Changed m (rank_in order) n (rank_in after)) (labels_changed m order n after)

-- The size of the two rows of a unit, summed over the units.
unfoldable pub rows_total : Rows → List ℕ → ℕ
rows_total rows units = sum units (λ u. count (rows.ins u) + count (rows.outs u))

-- Only one of the two holds.
abbrev pub one_of : Bool → Bool → Bool
one_of a b = (a && not b) || (not a && b)

-- By how many members the two rows of a unit differ, summed over the units.
unfoldable pub rows_changed : Rows → Rows → List ℕ → ℕ
rows_changed old new units = sum units (λ u. count (λ v. one_of (old.ins u v) (new.ins u v)) + count (λ v. one_of (old.outs u v) (new.outs u v)))

-- By right rows, the total is the size of the rows.
abbrev pub TotalByRows : Type 0
TotalByRows =
    (m : Map) → Sound m → (order : List ℕ) → Orders m order → (rows : Rows) → AllRight m order rows → rows_total rows order ≡ total m order

-- By right rows before and after, the number of changed labels is by how much the rows differ. The list has every unit of both maps, each once.
abbrev pub ChangedByRows : Type 0
ChangedByRows =
    (m : Map) → Sound m → (order : List ℕ) → Orders m order → (n : Map) → Sound n → (after : List ℕ) → Orders n after →
    (units : List ℕ) → Once units → ((u : ℕ) → T (m.unit u) → On u units) → ((u : ℕ) → T (n.unit u) → On u units) →
    (old new : Rows) → ((u : ℕ) → On u units → Right m (rank_in order) old u) → ((u : ℕ) → On u units → Right n (rank_in after) new u) →
    rows_changed old new units ≡ labels_changed m order n after

-- Without rings there are at most 32385 labels: 255 units have so many pairs, and no pair has two labels.
abbrev pub LabelsBounded : Type 0
LabelsBounded = (m : Map) → Sound m → NoRing m → (order : List ℕ) → Orders m order → total m order ≤ 32385
