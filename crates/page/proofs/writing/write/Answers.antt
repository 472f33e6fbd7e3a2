-- The head, the unit records and the pairing records, one after the other, are the whole page.
use Rattle.std.proofs.Common.{◌≡◌, ℕ, ◌+◌, ◌*◌, List, ◌++◌, length, sym, refl, ap, ◌∙◌, append_assoc, arith}
use Rattle.std.proofs.lemmas.List.{take_all}
use Rattle.theory.specs.Counts.{pair_count}
use Rattle.theory.specs.Lists.{sum}
use Rattle.theory.proofs.Counting.{pair-count-same}
use Rattle.plain.specs.Plain.{map_of, plain_by}
use Rattle.plain.specs.Saving.{ascending, head_bytes, unit_bytes, pairing_bytes, saved_page}
use Rattle.page_laws.proofs.Sums.{listeners-sum, order-few}
use Rattle.page.proofs.writing.write.Goals as goal

pub overflow_cast-order : goal.overflow_cast-order
overflow_cast-order g c =
    let few = order-few (g.M.Map.meaning c.args.map.now) c.sound.ensures c.args.order.now c.requires.orders in
    omega arith

pub write_units-requires : goal.write_units-requires
write_units-requires g c =
    let all = listeners-sum (g.M.Map.meaning c.args.map.now) c.sound.ensures c.args.order.now c.requires.orders in
    let number = c.requires.number in
    let few = c.requires.few in
    let long = c.requires.long in
    let same = c.write_head.auto.page in
    record { room = omega arith; few = omega arith }

pub write_pairings-requires : goal.write_pairings-requires
write_pairings-requires g c =
    let all = listeners-sum (g.M.Map.meaning c.args.map.now) c.sound.ensures c.args.order.now c.requires.orders in
    let number = c.requires.number in
    let few = c.requires.few in
    let long = c.requires.long in
    let same = c.write_head.auto.page in
    let again = c.write_units.auto.page in
    record { room = omega arith; few = omega arith }

pub returns : goal.returns
unfolding saved_page
returns g c =
    let m = g.M.Map.meaning c.args.map.now in
    let order = c.args.order.now in
    let all = listeners-sum m c.sound.ensures order c.requires.orders in
    let number = c.requires.number in
    let long = c.requires.long in
    let k1 = c.write_head.auto.page in
    let k2 = c.write_units.auto.page in
    let k3 = c.write_pairings.auto.page in
    let units = unit_bytes m.pair 1 order in
    let pairs = pairing_bytes m.pair 1 order in
    let many : pair_count m ≡ pair_count (map_of (plain_by m order)) = pair-count-same m (map_of (plain_by m order)) (λ x y. refl) in
    sym (take_all (4 + 3 * length order + 3 * sum order (λ u. length (ascending (m.pair u)))) c.write_pairings.new.page (omega arith))
    ∙ c.write_pairings.ensures ∙ ap (λ (xs : List ℕ). xs ++ pairs) (c.write_units.ensures ∙ ap (λ (xs : List ℕ). xs ++ units) c.write_head.ensures)
    ∙ ap (λ (n : ℕ). (head_bytes (length order) n ++ units) ++ pairs) (number ∙ many) ∙ append_assoc (head_bytes (length order) (pair_count (map_of (plain_by m order)))) units pairs
