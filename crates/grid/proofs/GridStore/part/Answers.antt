use Rattle.std.proofs.Common.{◌≡◌, ◌+◌, ◌≤◌, sym, arith}
use Rattle.theory.specs.Counts.{pair_count}
use Rattle.grid.specs.Meaning.{matrix_map}
use Rattle.grid.specs.Held.{grid_map}
use Rattle.grid.proofs.Counted.{part-counted}
use Rattle.grid.proofs.GridStore.part.Goals as goal

one_less : (c : goal.After-remove_pair) → pair_count (matrix_map c.remove_pair.new.self) + 1 ≡ c.args.self.now.count
one_less c =
    let g = c.args.self.now in
    part-counted (grid_map g) (matrix_map c.remove_pair.new.self) g.count g.counted c.args.a c.args.b (omega arith) (omega arith) c.remove_pair.ensures (sym c.if-not-paired.ensures)

pub overflow_sub-self : goal.overflow_sub-self
overflow_sub-self c = omega (arith, one_less c)

pub invariant_of-self : goal.invariant_of-self
invariant_of-self c =
    let less = one_less c in
    let within : c.args.self.now.count ≤ 8000 = c.args.self.now.within in
    record { counted = omega arith; within = omega arith }
