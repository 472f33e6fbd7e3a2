use Rattle.std.proofs.Common.{◌≡◌, ◌+◌, ◌≤◌, arith}
use Rattle.units.specs.Has.{has}
use Rattle.theory.specs.Counts.{count, pair_count}
use Rattle.grid.specs.Meaning.{matrix_map}
use Rattle.grid.specs.Held.{grid_map}
use Rattle.grid.proofs.Counted.{take_counted}
use Rattle.grid.proofs.GridStore.take.Goals as goal

gone : (c : goal.After-remove_unit) → pair_count (matrix_map c.remove_unit.new.self) + (count (has c.listeners.result) + count (has c.sources.result)) ≡ c.args.self.now.count
gone c =
    let g = c.args.self.now in
    take_counted (grid_map g) (matrix_map c.remove_unit.new.self) g.count g.counted c.args.u (omega arith) c.remove_unit.ensures (g.matrix.apart c.args.u)
    (has c.listeners.result) (has c.sources.result) c.listeners.ensures c.sources.ensures

pub overflow_sub-self : goal.overflow_sub-self
overflow_sub-self c = let all = gone c in omega arith

pub invariant_of-self : goal.invariant_of-self
invariant_of-self c =
    let all = gone c in
    let within : c.args.self.now.count ≤ 8000 = c.args.self.now.within in
    record { counted = omega arith; within = omega arith }
