use Rattle.mending.proofs.Exactly.{built}
use Rattle.mending.proofs.fill.Goals as goal

pub returns : goal.returns
returns g c =
    built (g.M.Map.meaning c.args.m.now) c.sound.ensures c.args.order.now c.requires.orders c.args.all.now c.requires.units c.args.labels.now c.mend.new.labels c.requires.none
    c.mend.result c.mend.ensures
