-- The index of a record as the page has it: 0 for none.
use Rattle.std.specs.Prelude.{◌≡◌, ℕ, ◌≤◌, Some, None, Option}

-- The index stands for the record, or for none.
abbrev pub IsIndex : ℕ → Option ℕ → Type 0
IsIndex index None = index ≡ 0
IsIndex index (Some r) = (1 ≤ r) × (index ≡ r)

abbrev pub index_of : Option ℕ → ℕ
index_of None = 0
index_of (Some r) = r
