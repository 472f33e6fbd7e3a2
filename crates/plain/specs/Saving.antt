-- A plain book written as a page. Pairing records are numbered by the rank of the source, then by the number of the listener.
use Rattle.std.specs.Prelude.{ℕ, ◌+◌, ◌/◌, ◌%◌, Bool, List, [], ◌∷◌, ◌++◌, length}
use Rattle.theory.specs.Counts.{pair_count}
use Rattle.theory.specs.Lists.{picked}
use Rattle.plain.specs.Lists.{numbers}
use Rattle.plain.specs.Plain.{Plain, map_of}

-- The numbers from 1 to 255 that pass the test, the least first: of the test `pair a` the listeners of a.
unfoldable pub ascending : (ℕ → Bool) → List ℕ
ascending f = picked f (numbers 1 255)

-- A record of three bytes: a number, and an index, low byte first.
abbrev pub record_bytes : ℕ → ℕ → List ℕ
record_bytes number index = number ∷ index % 256 ∷ index / 256 ∷ []

-- The index of the record that comes next, numbered `at`; 0 where none is left.
abbrev pub next_index : ℕ → List ℕ → ℕ
next_index at [] = 0
next_index at (l ∷ ls) = at

-- The unit records, where the next pairing record has the number `at`.
abbrev pub unit_bytes : (ℕ → ℕ → Bool) → ℕ → List ℕ → List ℕ
unit_bytes pair at [] = []
unit_bytes pair at (u ∷ us) = record_bytes u (next_index at (ascending (pair u))) ++ unit_bytes pair (at + length (ascending (pair u))) us

-- The pairing records of one chain, numbered from `at`.
abbrev pub chain_bytes : ℕ → List ℕ → List ℕ
chain_bytes at [] = []
chain_bytes at (l ∷ ls) = record_bytes l (next_index (at + 1) ls) ++ chain_bytes (at + 1) ls

-- The pairing records of the units, chain after chain.
abbrev pub pairing_bytes : (ℕ → ℕ → Bool) → ℕ → List ℕ → List ℕ
pairing_bytes pair at [] = []
pairing_bytes pair at (u ∷ us) = chain_bytes at (ascending (pair u)) ++ pairing_bytes pair (at + length (ascending (pair u))) us

abbrev pub head_bytes : ℕ → ℕ → List ℕ
head_bytes n m = 1 ∷ n ∷ m % 256 ∷ m / 256 ∷ []

-- The page of the book.
unfoldable pub saved_page : Plain → List ℕ
saved_page p =
    head_bytes (length p.order) (pair_count (map_of p)) ++ (unit_bytes p.pair 1 p.order ++ pairing_bytes p.pair 1 p.order)
