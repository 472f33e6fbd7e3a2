use Rattle.std.proofs.Common.{arith}
use Rattle.units.specs.Has.{has}
use Rattle.sheets.proofs.Wipes.{all-off}
use Rattle.sheets.proofs.off_units.Goals as goal

pub returns : goal.returns
returns c = all-off c.args.sheet.now c.requires (has c.loop-i.all) c.loop-i.i (omega (arith, c.requires, c.loop-i-test.false)) c.loop-i.invariant
