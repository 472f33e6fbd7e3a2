use Rattle.std.proofs.Common.{arith}
use Rattle.units.specs.Has.{has}
use Rattle.mending.proofs.Marking.{firsts_more}
use Rattle.mending.proofs.Renewing.{renewed-none, renewed-more, order-short}
use Rattle.mending.proofs.renew_all.Goals as goal

pub loop-k-init : goal.loop-k-init
loop-k-init g c = (
  renewed-none (g.M.Map.meaning c.args.m.now) c.args.order.now (has c.args.touched.now.ups) (has c.args.touched.now.downs) c.args.labels.now,
  c.empty-done.ensures,
)

pub overflow_add-total : goal.overflow_add-total
overflow_add-total g c =
    let short = order-short (g.M.Map.meaning c.args.m.now) c.sound.ensures c.args.order.now c.requires in
    let few = c.loop-k.invariant.0.most in
    let most = c.renew_both-total.ensures.most in
    omega arith

pub loop-k-preserved : goal.loop-k-preserved
loop-k-preserved g c =
    let turn = c.renew_both-total in (
      renewed-more (g.M.Map.meaning c.args.m.now) c.args.order.now c.requires (has c.args.touched.now.ups) (has c.args.touched.now.downs) c.loop-k.k (omega arith)
          c.args.labels.now c.loop-k.labels turn.new.labels c.loop-k.total turn.result turn.ensures.ins turn.ensures.outs turn.ensures.number turn.ensures.most c.loop-k.invariant.0,
      firsts_more c.args.order.now c.loop-k.k (has c.loop-k.done) (has c.insert.new.self) (omega arith) c.insert.ensures c.loop-k.invariant.1,
    )
