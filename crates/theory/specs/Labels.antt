-- The labels of a unit.
use Rattle.std.specs.Prelude.{◌≡◌, ℕ, zero, suc, ◌<◌, Bool, true, false, not, ◌&&◌, ◌||◌, ◌≢◌, ◌⊎◌, List, nat_le, nat_lt}
use Rattle.theory.specs.Maps.{Map, turned}
use Rattle.theory.specs.Chains.{Chain, On, Heard}
use Rattle.theory.specs.Hearing.{is_heard}

-- u is an in-label of v, at ranks where a smaller number is higher.
pub record InLabel (m : Map) (rank : ℕ → ℕ) (u v : ℕ) : Type 0 where
  -- v hears u
  pub heard : Heard m u v
  -- u is higher than v
  pub higher : rank u < rank v
  -- no unit on any chain from u to v is higher than u
  pub highest : (c : List ℕ) → Chain m u v c → (w : ℕ) → On w c → rank w < rank u → ⊥

-- u is an out-label of v: an in-label of it in the turned map.
abbrev pub OutLabel : Map → (ℕ → ℕ) → ℕ → ℕ → Type 0
OutLabel m rank u v = InLabel (turned m) rank u v

-- x is in the in-list of v: an in-label of it, or v itself. And so for the out-list.
abbrev pub InList : Map → (ℕ → ℕ) → ℕ → ℕ → Type 0
InList m rank x v = InLabel m rank x v ⊎ (x ≡ v)

abbrev pub OutList : Map → (ℕ → ℕ) → ℕ → ℕ → Type 0
OutList m rank x v = OutLabel m rank x v ⊎ (x ≡ v)

-- x is in the in-list of v from which the label u was struck. And so for the out-list.
abbrev pub InListBut : Map → (ℕ → ℕ) → ℕ → ℕ → ℕ → Type 0
InListBut m rank u x v = (InLabel m rank x v × (x ≢ u)) ⊎ (x ≡ v)

abbrev pub OutListBut : Map → (ℕ → ℕ) → ℕ → ℕ → ℕ → Type 0
OutListBut m rank u x v = (OutLabel m rank x v × (x ≢ u)) ⊎ (x ≡ v)

-- h is the highest of all units on chains from s to t, both ends included.
pub record Highest (m : Map) (rank : ℕ → ℕ) (s t h : ℕ) : Type 0 where
  pub on : (c : List ℕ) × Chain m s t c × On h c
  pub none : (c : List ℕ) → Chain m s t c → (w : ℕ) → On w c → rank w < rank h → ⊥

-- The test passes at every unit of the map below n.
unfoldable pub all_units : Map → ℕ → (ℕ → Bool) → Bool
all_units m zero f = true
all_units m (suc n) f = elim (m.unit n) [ false ↦ all_units m n f | true ↦ f n && all_units m n f ]

-- The in-label condition as a test that computes.
unfoldable pub is_in_label : Map → (ℕ → ℕ) → ℕ → ℕ → Bool
is_in_label m rank u v =
    is_heard m u v && (nat_lt (rank u) (rank v) && all_units m 256 (λ w. not (is_heard m u w && is_heard m w v) || nat_le (rank u) (rank w)))
