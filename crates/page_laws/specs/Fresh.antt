-- A record that may come next in a chain.
use Rattle.std.specs.Prelude.{ℕ, Bool, false, not, ◌&&◌, List, nat_le, slice_index_or}
use Rattle.theory.specs.Maps.{listed}
use Rattle.plain.specs.Pages.{record_count, listener_in, next_of}

-- It was not seen, its next index is one of a record, its listener is a unit and was not met in this chain.
abbrev pub fresh_record : List ℕ → List ℕ → List Bool → (ℕ → Bool) → ℕ → Bool
fresh_record page units seen row r =
    not (slice_index_or seen r false) && (nat_le (next_of page r) (record_count page) && (listed (listener_in page r) units && not (row (listener_in page r))))
