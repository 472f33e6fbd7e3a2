-- The order has no more than 255 units, and the rows are exact, so the total over them is that of the lists.
use Rattle.std.proofs.Common.{◌∙◌}
use Rattle.places.proofs.Trying.{short, tried}
use Rattle.places.proofs.total_at.Goals as goal

pub total_of-requires : goal.total_of-requires
total_of-requires g c = short (g.M.Map.meaning c.args.m.now) c.sound.ensures _ _ (c.as_slice-order.ensures ∙ c.insert.ensures) (c.requires.new.orders c.args.k)

pub returns : goal.returns
returns g c =
    tried (g.M.Map.meaning c.args.m.now) c.sound.ensures _ _ (c.as_slice-order.ensures ∙ c.insert.ensures) (c.requires.new.orders c.args.k) c.build.result c.build.ensures c.total_of.result c.total_of.ensures
