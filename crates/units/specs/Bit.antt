-- The binary digits of a number, and a row of four 64-bit words read as a set of numbers.
use Rattle.std.specs.Prelude.{ℕ, ◌-◌, ◌/◌, ◌%◌, ◌^◌, Bool, ◌&&◌, List, ◌==◌, bit_and, bit_or, nat_lt, slice_index}

-- The binary digit of n at place k is 1.
unfoldable pub bit : ℕ → ℕ → Bool
bit n k = n / 2 ^ k % 2 == 1

-- k is in the set of the row: its digit in its word is 1.
unfoldable pub member : List ℕ → ℕ → Bool
member ws k = nat_lt k 256 && bit (slice_index ws (k / 64)) (k % 64)

-- The digits of the word x that the word y lacks.
abbrev pub lacking : ℕ → ℕ → ℕ
lacking x y = bit_and x (18446744073709551615 - y)

-- The digits of all words of a row in one.
abbrev pub joined : List ℕ → ℕ
joined xs = bit_or (bit_or (bit_or (slice_index xs 0) (slice_index xs 1)) (slice_index xs 2)) (slice_index xs 3)
