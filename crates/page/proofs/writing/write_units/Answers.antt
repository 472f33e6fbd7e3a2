use Rattle.std.proofs.Common.{◌≡◌, ℕ, ◌+◌, ◌*◌, cond, eqb, List, ◌++◌, length, get_or, take, drop, sym, ap, ◌∙◌, arith}
use Rattle.std.proofs.lemmas.List.{at_drop_all}
use Rattle.theory.proofs.Counting.{count_same}
use Rattle.maps.proofs.Asked.{zero_not_listening}
use Rattle.plain.specs.Saving.{ascending, record_bytes, next_index, unit_bytes}
use Rattle.page_laws.proofs.Sums.{length-ascending}
use Rattle.page_laws.proofs.Writing.{written, index-count, unit-next, sum-next, all-written}
use Rattle.page.proofs.writing.write_units.Goals as goal

pub loop-i-preserved : goal.loop-i-preserved
loop-i-preserved g c =
    let m = g.M.Map.meaning c.args.map.now in
    let order = c.args.order.now in
    let i = c.loop-i.i in
    let u = get_or order i 0 in
    let h = c.loop-i-test.true in
    let many : c.len-count.result ≡ length (ascending (m.pair u)) =
    c.len-count.ensures.number ∙ count_same _ (m.pair u) c.listeners.ensures ∙ sym (length-ascending (m.pair u) (zero_not_listening m c.sound.ensures u)) in
    let place : 4 + 3 * (i + 1) ≡ (4 + 3 * i) + 3 = omega arith in
    let index : c.index_of.result ≡ next_index c.loop-i.at (ascending (m.pair u)) =
    c.index_of.ensures ∙ ap (λ (n : ℕ). cond (eqb n 0) 0 c.loop-i.at) many ∙ sym (index-count c.loop-i.at (ascending (m.pair u))) in
    let left = sum-next (λ u. length (ascending (m.pair u))) order i h in
    let inv = c.loop-i.invariant.1 in (
      ap (λ (n : ℕ). take (4 + 3 * (i + 1)) c.write_record.new.page ++ unit_bytes m.pair (c.loop-i.at + n) (drop (i + 1) order)) many
          ∙ written (take (4 + 3 * i) c.loop-i.page) (take (4 + 3 * (i + 1)) c.write_record.new.page) (record_bytes u (next_index c.loop-i.at (ascending (m.pair u)))) (unit_bytes m.pair (c.loop-i.at + length (ascending (m.pair u))) (drop (i + 1) order)) _
          (ap (λ (xs : List ℕ). take (4 + 3 * i) c.loop-i.page ++ xs) (sym (unit-next m.pair order i h c.loop-i.at)) ∙ c.loop-i.invariant.0)
          (ap (λ (n : ℕ). take n c.write_record.new.page) place ∙ c.write_record.ensures ∙ ap (λ (n : ℕ). take (4 + 3 * i) c.loop-i.page ++ record_bytes u n) index),
      omega arith,
    )

pub returns : goal.returns
returns g c =
    let m = g.M.Map.meaning c.args.map.now in
    let order = c.args.order.now in
    let i = c.loop-i.i in
    let here : i ≡ length order = let a = c.loop-i-test.false in let b = c.loop-i.auto.i-end in omega arith in
    ap (λ (n : ℕ). take (4 + 3 * n) c.loop-i.page) (sym here)
    ∙ all-written (take (4 + 3 * i) c.loop-i.page) _ _ c.loop-i.invariant.0 (at_drop_all (unit_bytes m.pair c.loop-i.at) order i c.loop-i-test.false)
