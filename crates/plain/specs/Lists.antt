-- Tests over lists of numbers: the library's words at numbers, and two more.
use Rattle.std.specs.Prelude.{ℕ, zero, suc, Bool, false, ◌||◌, List, [], ◌∷◌, map}
use Rattle.std.specs.List.{list_all, list_any}
use Rattle.theory.specs.Maps.{listed}

-- A test that passes at every number of a list, and one that passes at some.
abbrev pub every : (ℕ → Bool) → List ℕ → Bool
every = list_all

abbrev pub some : (ℕ → Bool) → List ℕ → Bool
some = list_any

-- A number stands twice in the list.
abbrev pub doubled : List ℕ → Bool
doubled [] = false
doubled (x ∷ xs) = listed x xs || doubled xs

-- The numbers from `from` on, so many. The library's `range_with_len` counts by `+ 1`, which computes no further in a proof by cases.
abbrev pub numbers : ℕ → ℕ → List ℕ
numbers from zero = []
numbers from (suc many) = from ∷ numbers (suc from) many

abbrev pub each : (ℕ → ℕ) → List ℕ → List ℕ
each = map
