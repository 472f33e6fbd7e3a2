-- A sheet of bytes, one for each unit from 1 on: the low bit is the off mark, and a byte of 2 or more is marked besides.
use Rattle.std.specs.Prelude.{ℕ, ◌-◌, ◌%◌, ◌<◌, Bool, ◌&&◌, List, map, length, nat_le, slice_index}

-- The sheet without marks: every byte is its low bit.
abbrev pub wiped : List ℕ → List ℕ
wiped sheet = map (λ x. x % 2) sheet

-- The byte of the unit u is marked.
abbrev pub marked : List ℕ → ℕ → Bool
marked sheet u = nat_le 1 u && nat_le 2 (slice_index sheet (u - 1))

-- No byte is marked.
abbrev pub Clean : List ℕ → Type 0
Clean sheet = (k : ℕ) → k < length sheet → slice_index sheet k < 2
