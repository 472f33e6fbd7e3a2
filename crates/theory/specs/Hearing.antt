-- Hearing as a test that computes.
use Rattle.std.specs.Prelude.{ℕ, zero, suc, Bool, true, false, ◌&&◌, ◌||◌, ◌==◌}
use Rattle.theory.specs.Maps.{Map}

-- There is a chain from s to t with no unit above k between its ends (Warshall): one with none above k - 1, or, where k
-- is a unit, one from s to k and one from k to t. `elim` computes only the case that it takes, so that a small map is computed at 255 too.
unfoldable pub reach : Map → ℕ → ℕ → ℕ → Bool
reach m zero s t = (m.unit s && s == t) || m.pair s t
reach m (suc k) s t =
    elim (m.unit (suc k)) [ false ↦ reach m k s t | true ↦ elim (reach m k s t) [ true ↦ true | false ↦ elim (reach m k s (suc k)) [ true ↦ reach m k (suc k) t | false ↦ false ] ] ]

-- s is heard by t: the test.
unfoldable pub is_heard : Map → ℕ → ℕ → Bool
is_heard m s t = reach m 255 s t
