use Rattle.std.proofs.Common.{arith}
use Rattle.units.specs.Has.{has}
use Rattle.mending.proofs.Renewing.{order-short}
use Rattle.mending.proofs.Exactly.{mended}
use Rattle.mending.proofs.mend.Goals as goal

pub overflow_add-result : goal.overflow_add-result
overflow_add-result g c =
    let short = order-short (g.M.Map.meaning c.args.m.now) c.sound.ensures c.args.order.now c.requires in
    let few = c.renew_all-renewed.ensures.most in
    let rest = c.empty_gone.ensures.most in
    omega arith

pub returns : goal.returns
returns g c =
    let gone = c.empty_gone in
    mended (g.M.Map.meaning c.args.m.now) c.sound.ensures c.args.order.now c.requires c.args.touched.now.ups c.args.touched.now.downs c.args.labels.now c.renew_all-renewed.new.labels gone.new.labels
    c.renew_all-renewed.result gone.result c.renew_all-renewed.ensures (has c.units.result) c.units.ensures gone.ensures.ins gone.ensures.outs gone.ensures.number
