use Rattle.units.specs.Has.{has}
use Rattle.mending.specs.Steps.{rows}
use Rattle.mending.proofs.Marking.{Marking}
use Rattle.mending.proofs.covered.Given as goal

-- the units before u in the order, and what the first of them cover for u
abbrev pub invariant-loop-w : goal.invariant-loop-w
invariant-loop-w l = Marking l.turn.order.now (rows l.ins l.outs) l.u l.turn.k l.w-index (has l.marks)
