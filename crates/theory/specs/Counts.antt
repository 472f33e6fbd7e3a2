-- How many members a set has, and how many pairings a map.
use Rattle.std.specs.Prelude.{ℕ, zero, suc, ◌+◌, Bool, true, false}
use Rattle.theory.specs.Maps.{Map}

-- the sum of f at each number below n
unfoldable pub sum_below : (ℕ → ℕ) → ℕ → ℕ
sum_below f zero = 0
sum_below f (suc n) = f n + sum_below f n

abbrev pub one : Bool → ℕ
one true = 1
one false = 0

-- how many numbers below 256 pass the test
unfoldable pub count : (ℕ → Bool) → ℕ
count p = sum_below (λ k. one (p k)) 256

-- how many listeners a has
unfoldable pub listener_count : Map → ℕ → ℕ
listener_count m a = sum_below (λ b. one (m.pair a b)) 256

-- how many pairings the map has
unfoldable pub pair_count : Map → ℕ
pair_count m = sum_below (listener_count m) 256
