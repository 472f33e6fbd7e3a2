-- Each unit of the order adds its holders, which are at most 512.
use Rattle.std.proofs.Common.{◌+◌, ◌∙◌, rules}
use Rattle.std.proofs.lemmas.Iterator.{YieldsList-from_slice, YieldsList-from_map}
use Rattle.std.proofs.lemmas.Iterator.Consumers.{YieldsList-at, sum_by_from_yields_List}
use Rattle.theory.specs.Counts.{count}
use Rattle.labels.specs.Holding.{holds, rows_of}
use Rattle.places.proofs.Sums.{total_summed}
use Rattle.places.proofs.total_of.Goals as goal

pub returns : goal.returns
returns c =
    let l = c.args.labels.now in
    let order = c.args.order.now in
    sum_by_from_yields_List (λ u. count (holds l.ins u) + count (holds l.outs u)) order c.map.result _ c.sum.ensures.ran
    (YieldsList-from_map _ (λ u. count (holds l.ins u) + count (holds l.outs u)) (YieldsList-at c.map.ensures.source (YieldsList-from_slice order cc)) c.map.ensures.closure (λ x r q k. search rules))
    ∙ total_summed (rows_of l) order
