-- Whether a map has a ring.
use Rattle.std.specs.Prelude.{◌≡◌, ℕ, Bool, true, false}
use Rattle.theory.specs.Maps.{Map}
use Rattle.theory.specs.Hearing.{is_heard}

-- Yes: some a is paired to a unit b that it hears. No: none is.
abbrev pub Ringed : Bool → Map → Type 0
Ringed true m = (a : ℕ) × (b : ℕ) × (m.pair a b ≡ true) × (is_heard m b a ≡ true)
Ringed false m = (a b : ℕ) → m.pair a b ≡ true → is_heard m b a ≡ false
