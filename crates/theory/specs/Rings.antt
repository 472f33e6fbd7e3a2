-- Which changes make a ring: what is proved.
use Rattle.std.specs.Prelude.{ℕ, Bool, T, ◌≢◌, ◌↔◌, List}
use Rattle.theory.specs.Maps.{Map, Sound, nothing, with_pair, without_pair, hidden, enrolled}
use Rattle.theory.specs.Chains.{On, Heard, NoRing}
use Rattle.theory.specs.Changes.{New}

pub record RingsKeptOut : Type 0 where
  -- a map has no ring exactly when no unit hears a listener of its own
  pub by_pairings : (m : Map) → Sound m → NoRing m ↔ ((a b : ℕ) → T (m.pair a b) → Heard m b a → ⊥)
  pub none : NoRing nothing
  -- a pairing of a to b makes a ring exactly when a hears b
  pub pair : (m : Map) → Sound m → NoRing m → (a b : ℕ) → T (m.unit a) → T (m.unit b) → a ≢ b → NoRing (with_pair a b m) ↔ (Heard m b a → ⊥)
  -- what is taken away or hidden makes none
  pub unpair : (m : Map) → Sound m → NoRing m → (a b : ℕ) → NoRing (without_pair a b m)
  pub hide : (f : ℕ → Bool) (m : Map) → Sound m → NoRing m → NoRing (hidden f m)
  -- an enrolled unit makes one exactly when some source of it hears some listener of it
  pub enrol : (m : Map) → Sound m → NoRing m → (v : ℕ) (sources listeners : List ℕ) → New m v sources listeners → NoRing (enrolled v sources listeners m) ↔ ((s t : ℕ) → On s sources → On t listeners → Heard m t s → ⊥)
