-- How long a saved page is.
use Rattle.std.proofs.Common.{◌≡◌, ◌+◌, ◌*◌, ◌++◌, length, arith, length-append}
use Rattle.theory.specs.Maps.{Sound}
use Rattle.theory.specs.Counts.{pair_count}
use Rattle.theory.specs.Ranks.{Orders}
use Rattle.plain.specs.Plain.{Plain, map_of}
use Rattle.plain.specs.Saving.{head_bytes, unit_bytes, pairing_bytes, saved_page}
use Rattle.page_laws.proofs.Sums.{listeners-sum}
use Rattle.page_laws.proofs.Writing.{length-units, length-pairings}

pub saved-length : (p : Plain) → Sound (map_of p) → Orders (map_of p) p.order → length (saved_page p) ≡ 4 + 3 * length p.order + 3 * pair_count (map_of p)
unfolding saved_page
saved-length p sound orders =
    let units = length-units p.pair 1 p.order in
    let pairs = length-pairings p.pair 1 p.order in
    let all = listeners-sum (map_of p) sound p.order orders in
    let both = length-append (unit_bytes p.pair 1 p.order) (pairing_bytes p.pair 1 p.order) in
    let whole = length-append (head_bytes (length p.order) (pair_count (map_of p))) (unit_bytes p.pair 1 p.order ++ pairing_bytes p.pair 1 p.order) in
    omega arith
