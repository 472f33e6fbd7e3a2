-- What the answer to a hiding says of the marks.
use Rattle.std.specs.Prelude.{◌≡◌, ℕ, Bool, ◌||◌, Ok, Err, ◌==◌, ◌≢◌}
use Rattle.maps.specs.Changes.{Answer}
use Rattle.maps.specs.declared.fault.StoreFault.TheVariants.{Zero}

-- The mark of u is refused at 0 alone, and then no mark changes; else u is marked besides.
abbrev pub Hid : (ℕ → Bool) → ℕ → Answer → (ℕ → Bool) → Type 0
Hid old u (Ok v) new = (u ≢ 0) × ((k : ℕ) → new k ≡ (k == u || old k))
Hid old u (Err fault) new = (u ≡ 0) × (fault ≡ Zero) × ((k : ℕ) → new k ≡ old k)
