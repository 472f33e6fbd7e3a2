use Rattle.std.proofs.Common.{◌≡◌, ℕ, ◌+◌, ◌*◌, List, ◌++◌, length, get_or, take, drop, sym, ap, ◌∙◌, arith}
use Rattle.std.proofs.lemmas.List.{at_drop_all}
use Rattle.units.specs.Has.{has}
use Rattle.theory.specs.Lists.{sum}
use Rattle.theory.proofs.Counting.{count_same}
use Rattle.maps.proofs.Asked.{zero_not_listening}
use Rattle.plain.specs.Saving.{ascending, chain_bytes, pairing_bytes}
use Rattle.page_laws.proofs.Sums.{length-ascending}
use Rattle.page_laws.proofs.Writing.{written, pairing-next, sum-next, sum-end, all-written, same-ascending}
use Rattle.page.proofs.writing.write_pairings.Goals as goal

pub write_chain-requires : goal.write_chain-requires
write_chain-requires g c =
    let m = g.M.Map.meaning c.args.map.now in
    let order = c.args.order.now in
    let i = c.loop-u.u-index in
    let left = sum-next (λ u. length (ascending (m.pair u))) order i c.loop-u-test.true in
    let many = ap length (same-ascending (has c.listeners-listeners.result) (m.pair (get_or order i 0)) c.listeners-listeners.ensures) in
    let inv = c.loop-u.invariant in
    let long = c.loop-u.auto.page in
    let room = c.requires.room in
    let few = c.requires.few in
    record { room = omega arith; few = omega arith }

pub loop-u-preserved : goal.loop-u-preserved
loop-u-preserved g c =
    let m = g.M.Map.meaning c.args.map.now in
    let order = c.args.order.now in
    let i = c.loop-u.u-index in
    let u = get_or order i 0 in
    let h = c.loop-u-test.true in
    let left = sum-next (λ u. length (ascending (m.pair u))) order i h in
    let list = same-ascending (has c.listeners-listeners.result) (m.pair u) c.listeners-listeners.ensures in
    let size : length (ascending (has c.listeners-listeners.result)) ≡ length (ascending (m.pair u)) = ap length list in
    let many = c.len.ensures.number ∙ count_same _ (m.pair u) c.listeners-listeners.ensures ∙ sym (length-ascending (m.pair u) (zero_not_listening m c.sound.ensures u)) in
    let again = c.len-at.ensures.number ∙ count_same _ (m.pair u) c.listeners-listeners.ensures ∙ sym (length-ascending (m.pair u) (zero_not_listening m c.sound.ensures u)) in
    let inv = c.loop-u.invariant in
    let place : c.loop-u.to + 3 * c.len.result ≡ c.loop-u.to + 3 * length (ascending (has c.listeners-listeners.result)) = omega arith in (
      ap (λ (n : ℕ). take (c.loop-u.to + 3 * c.len.result) c.write_chain.new.page ++ pairing_bytes m.pair (c.loop-u.at + n) (drop (i + 1) order)) again
          ∙ written (take c.loop-u.to c.loop-u.page) (take (c.loop-u.to + 3 * c.len.result) c.write_chain.new.page) (chain_bytes c.loop-u.at (ascending (m.pair u))) (pairing_bytes m.pair (c.loop-u.at + length (ascending (m.pair u))) (drop (i + 1) order)) _
          (ap (λ (xs : List ℕ). take c.loop-u.to c.loop-u.page ++ xs) (sym (pairing-next m.pair order i h c.loop-u.at)) ∙ inv.0)
          (ap (λ (n : ℕ). take n c.write_chain.new.page) place ∙ c.write_chain.ensures ∙ ap (λ (xs : List ℕ). take c.loop-u.to c.loop-u.page ++ chain_bytes c.loop-u.at xs) list),
      omega arith,
      omega arith,
    )

pub returns : goal.returns
returns g c =
    let m = g.M.Map.meaning c.args.map.now in
    let order = c.args.order.now in
    let i = c.loop-u.u-index in
    let none = sum-end (λ u. length (ascending (m.pair u))) order i c.loop-u-test.false in
    let inv = c.loop-u.invariant.2 in
    let end : c.args.from + 3 * sum order (λ u. length (ascending (m.pair u))) ≡ c.loop-u.to = omega arith in
    ap (λ (n : ℕ). take n c.loop-u.page) end
    ∙ all-written (take c.loop-u.to c.loop-u.page) _ _ c.loop-u.invariant.0 (at_drop_all (pairing_bytes m.pair c.loop-u.at) order i c.loop-u-test.false)
