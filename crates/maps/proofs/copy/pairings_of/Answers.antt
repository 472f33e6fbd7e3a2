use Rattle.std.proofs.Common.{◌+◌, sym, arith}
use Rattle.units.specs.Has.{has}
use Rattle.theory.specs.Counts.{listener_count}
use Rattle.theory.proofs.Counting.{sum-none}
use Rattle.maps.proofs.Sums.{sum_more, pair-sum, row_count}
use Rattle.maps.proofs.copy.pairings_of.Goals as goal

pub loop-a-init : goal.loop-a-init
loop-a-init g c = (sym (sum-none (listener_count (g.M.Map.meaning c.args.from.now))), omega arith)

pub loop-a-preserved : goal.loop-a-preserved
loop-a-preserved g c =
    let m = g.M.Map.meaning c.args.from.now in
    let next = sum_more (listener_count m) c.loop-a.a in
    let row = row_count m c.loop-a.a (has c.listeners.result) c.listeners.ensures in
    let len = c.len.ensures.number in
    (omega arith, omega arith)

pub returns : goal.returns
returns g c = pair-sum (g.M.Map.meaning c.args.from.now) c.loop-a.a c.loop-a.total (omega arith) c.loop-a.invariant.0

pub returns-2 : goal.returns-2
returns-2 g c =
    let m = g.M.Map.meaning c.args.from.now in
    let next = sum_more (listener_count m) c.loop-a.a in
    let row = row_count m c.loop-a.a (has c.listeners.result) c.listeners.ensures in
    let len = c.len.ensures.number in
    pair-sum m (c.loop-a.a + 1) _ (omega arith) (omega arith)
