use Rattle.std.proofs.Common.{get_or}
use Rattle.units.specs.Has.{has}
use Rattle.mending.specs.Steps.{rows}
use Rattle.mending.proofs.Marking.{row-found}
use Rattle.mending.proofs.new_row.Goals as goal

pub returns : goal.returns
returns g c =
    row-found (g.M.Map.meaning c.args.m.now) c.sound.ensures c.args.turn.order.now c.requires (rows c.args.ins.now c.args.outs.now) (get_or c.args.turn.order.now c.args.turn.k 0)
    (has c.covered.result) c.covered.ensures (has c.walk.result) c.walk.ensures
