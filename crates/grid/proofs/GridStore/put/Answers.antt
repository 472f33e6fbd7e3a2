use Rattle.grid.specs.Meaning.{matrix_map}
use Rattle.grid.specs.Held.{grid_map}
use Rattle.grid.proofs.Counted.{put-counted}
use Rattle.grid.proofs.GridStore.put.Goals as goal

pub invariant_of-self : goal.invariant_of-self
invariant_of-self c =
    let g = c.args.self.now in
    record { counted = put-counted (grid_map g) (matrix_map c.add_unit.new.self) g.count g.counted c.args.u c.add_unit.ensures; within = g.within }
