use Rattle.std.proofs.Common.{arith}
use Rattle.grid.proofs.Kept.{filled}
use Rattle.grid.proofs.rows.listener_rows.Goals as goal

pub loop-a-preserved : goal.loop-a-preserved
loop-a-preserved g c = filled (g.M.Map.meaning c.args.m.now).pair c.loop-a.row-items c.loop-a.a c.listeners.result (omega arith) c.listeners.ensures c.loop-a.invariant
