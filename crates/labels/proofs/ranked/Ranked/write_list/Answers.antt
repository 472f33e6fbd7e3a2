-- The units that come are those of the list, each with its place there.
use Rattle.std.proofs.Common.{length, filter, set, sym, subst, ◌∙◌, rules, arith}
use Rattle.std.proofs.lemmas.List.{length_push}
use Rattle.std.proofs.lemmas.List.FromFn.{length-enumerate_from}
use Rattle.std.proofs.lemmas.Iterator.{YieldsList-from_slice}
use Rattle.std.proofs.lemmas.Iterator.Consumers.{YieldsList-at, YieldsList-from_filter, YieldsList-from_enumerate, YieldsList-turn, YieldsList-end}
use Rattle.labels.specs.Listed.{is_listed}
use Rattle.labels.proofs.Written.{Written, place, written_more, written-all}
use Rattle.labels.proofs.ranked.Ranked.write_list.Goals as goal

pub bounds-buffer-i : goal.bounds-buffer-i
bounds-buffer-i c =
    let f = is_listed c.args.list c.args.self.now.labels.now c.args.u in
    let came = place (filter f c.args.self.now.order.now) (length c.loop-i.yielded) c.in-Some.i c.in-Some.v.now (YieldsList-turn (YieldsList-at c.into_iter-i-iterator.ensures.into_iter_gives (YieldsList-from_enumerate (YieldsList-at c.enumerate-i-items.ensures.source (YieldsList-from_filter _ f (YieldsList-from_slice c.args.self.now.order.now cc) c.filter-listed.ensures.closure (λ x b q k. search rules))) cc)) c.loop-i.yielded _ c.loop-i.yielded_by _ _ (c.in-Some.i, c.in-Some.v) c.in-Some.is c.next.ensures.steps) in
    let here = came.index in
    let within = came.within in
    omega (arith, c.requires)

pub loop-i-preserved : goal.loop-i-preserved
loop-i-preserved c =
    let f = is_listed c.args.list c.args.self.now.labels.now c.args.u in
    let came = place (filter f c.args.self.now.order.now) (length c.loop-i.yielded) c.in-Some.i c.in-Some.v.now (YieldsList-turn (YieldsList-at c.into_iter-i-iterator.ensures.into_iter_gives (YieldsList-from_enumerate (YieldsList-at c.enumerate-i-items.ensures.source (YieldsList-from_filter _ f (YieldsList-from_slice c.args.self.now.order.now cc) c.filter-listed.ensures.closure (λ x b q k. search rules))) cc)) c.loop-i.yielded _ c.loop-i.yielded_by _ _ (c.in-Some.i, c.in-Some.v) c.in-Some.is c.next.ensures.steps) in
    let all = filter f c.args.self.now.order.now in
    let next = written_more all c.args.buffer.now c.loop-i.buffer (length c.loop-i.yielded) c.in-Some.i c.in-Some.v.now came (omega (arith, c.requires)) c.loop-i.invariant.2 in (
      search rules,
      search rules,
      subst (Written all c.args.buffer.now (set c.loop-i.buffer c.in-Some.i c.in-Some.v.now)) (sym (length_push c.loop-i.yielded (c.in-Some.i, c.in-Some.v))) next,
    )

pub returns : goal.returns
returns c =
    let f = is_listed c.args.list c.args.self.now.labels.now c.args.u in
    let all = filter f c.args.self.now.order.now in
    let end = YieldsList-end (YieldsList-at c.into_iter-i-iterator.ensures.into_iter_gives (YieldsList-from_enumerate (YieldsList-at c.enumerate-i-items.ensures.source (YieldsList-from_filter _ f (YieldsList-from_slice c.args.self.now.order.now cc) c.filter-listed.ensures.closure (λ x b q k. search rules))) cc)) c.loop-i.yielded _ c.loop-i.yielded_by _ _ c.in-None.is c.next.ensures.steps in
    written-all all c.args.buffer.now c.loop-i.buffer (length c.loop-i.yielded) (end.1 ∙ length-enumerate_from 0 all) c.loop-i.invariant.2
