-- Reach: the fewest pairings of a chain from one unit to another that has no unit which is off.
use Rattle.std.specs.Prelude.{ℕ, zero, suc, ◌-◌, Bool, cond, ◌&&◌, ◌||◌, List, Some, None, Option, ◌==◌, nat_le, slice_index}
use Rattle.theory.specs.Maps.{Map, hidden}
use Rattle.plain.specs.Lists.{some}
use Rattle.plain.specs.Plain.{Plain, map_of}

-- The byte of the unit u in an off sheet is 1. The first byte is that of unit 1.
abbrev pub off : List ℕ → ℕ → Bool
off sheet u = nat_le 1 u && slice_index sheet (u - 1) == 1

-- The map without the units that are off.
abbrev pub open_map : Plain → List ℕ → Map
open_map p sheet = hidden (off sheet) (map_of p)

-- A chain from s to t has at most n pairings; `units` are those of the map.
unfoldable pub within : Map → List ℕ → ℕ → ℕ → ℕ → Bool
within m units zero s t = m.unit s && s == t
within m units (suc n) s t = within m units n s t || some (λ x. m.pair s x && within m units n x t) units

-- The first number that passes the test, of so many from `from` on.
unfoldable pub first_number : (ℕ → Bool) → ℕ → ℕ → Option ℕ
first_number test from zero = None
first_number test from (suc many) = cond (test from) (Some from) (first_number test (suc from) many)

-- The fewest pairings that lead from s to t past the units that are off; none where an end is off or no chain leads there.
-- No chain of different units has more than 255 pairings.
unfoldable pub reach_told : Plain → ℕ → ℕ → List ℕ → Option ℕ
reach_told p s t sheet = first_number (λ n. within (open_map p sheet) p.order n s t) 0 256
