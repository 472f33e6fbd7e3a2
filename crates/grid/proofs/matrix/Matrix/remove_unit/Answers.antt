use Rattle.std.proofs.Common.{eqb, arith}
use Rattle.theory.specs.Maps.{without_unit}
use Rattle.theory.proofs.Maps.{same_map, hidden-sound}
use Rattle.grid.specs.Meaning.{matrix_map}
use Rattle.grid.proofs.Kept.{kept, sound-of, listeners-left, sources-left}
use Rattle.grid.proofs.matrix.Matrix.remove_unit.Goals as goal

pub invariant_of-self : goal.invariant_of-self
invariant_of-self c =
    let x = c.args.self.now in
    let u = c.args.u in
    let k = kept (without_unit u (matrix_map x)) c.remove.new.self c.remove_among.new.rows c.remove_among-2.new.rows
    (hidden-sound (λ k. eqb k u) (matrix_map x) (sound-of x)) c.remove.ensures
    (listeners-left x u c.empty.result c.remove_among.new.rows c.empty.ensures (omega arith) c.remove_among.ensures)
    (sources-left x u c.empty-2.result c.remove_among-2.new.rows c.empty-2.ensures (omega arith) c.remove_among-2.ensures) in
    record { zero = k.zero; from = k.from; to = k.to; apart = k.apart; turned = k.turned }

pub returns : goal.returns
returns c =
    same_map _ _ c.remove.ensures
    (listeners-left c.args.self.now c.args.u c.empty.result c.remove_among.new.rows c.empty.ensures (omega arith) c.remove_among.ensures)
