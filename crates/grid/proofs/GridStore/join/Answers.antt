use Rattle.std.proofs.Common.{◌≤◌, sym, arith}
use Rattle.grid.specs.Meaning.{matrix_map}
use Rattle.grid.specs.Held.{grid_map}
use Rattle.grid.proofs.Counted.{join-counted}
use Rattle.grid.proofs.GridStore.join.Goals as goal

pub invariant_of-self : goal.invariant_of-self
invariant_of-self c =
    let g = c.args.self.now in
    let within : g.count ≤ 8000 = g.within in
    record {
      counted = join-counted (grid_map g) (matrix_map c.add_pair.new.self) g.count g.counted c.args.a c.args.b (omega arith) (omega arith) c.add_pair.ensures (sym c.if-paired.ensures);
      within = omega arith;
    }
