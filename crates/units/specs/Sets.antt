-- Words for sets of numbers that are given by a test.
use Rattle.std.specs.Prelude.{◌≡◌, ℕ, ◌<◌, ◌≤◌, Bool, true, false, Some, None, Option}

-- r answers whether the set has a member.
abbrev pub Inhabited : Bool → (ℕ → Bool) → Type 0
Inhabited true p = (k : ℕ) × (p k ≡ true)
Inhabited false p = (k : ℕ) → p k ≡ false

-- r is the least member that is not below `from`, or None where there is none.
abbrev pub Least : (ℕ → Bool) → ℕ → Option ℕ → Type 0
Least p from None = (k : ℕ) → from ≤ k → p k ≡ false
Least p from (Some m) = (from ≤ m) × (p m ≡ true) × ((k : ℕ) → from ≤ k → k < m → p k ≡ false)
