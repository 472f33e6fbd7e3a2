-- The book with the unit enrolled is tried at each rank.
use Rattle.grid.specs.Meaning.{matrix_map}
use Rattle.places.specs.Trials.{told_of}
use Rattle.places.proofs.Trying.{new-absent, new-orders, new-fits, told_at}
use Rattle.places.proofs.best_place.Goals as goal

pub best_of-requires : goal.best_of-requires
best_of-requires g c = record {
  low = c.requires.new.low;
  absent = new-absent (g.M.Map.meaning c.args.m.now) (matrix_map c.enrolled_copy.result) c.sound.ensures c.args.ranks.now c.requires.orders c.args.v c.args.partners.now.sources.now c.args.partners.now.listeners.now c.requires.new c.enrolled_copy.ensures;
  orders = new-orders (g.M.Map.meaning c.args.m.now) (matrix_map c.enrolled_copy.result) c.sound.ensures c.args.ranks.now c.requires.orders c.args.v c.args.partners.now.sources.now c.args.partners.now.listeners.now c.requires.new c.enrolled_copy.ensures;
  fits = new-fits (g.M.Map.meaning c.args.m.now) (matrix_map c.enrolled_copy.result) c.sound.ensures c.args.ranks.now c.requires.orders c.args.v c.args.partners.now.sources.now c.args.partners.now.listeners.now c.requires.new c.enrolled_copy.ensures;
}

pub returns : goal.returns
returns g c = told_at (g.M.Map.meaning c.args.m.now) (matrix_map c.enrolled_copy.result) c.sound.ensures c.args.ranks.now c.requires.orders c.args.v c.args.partners.now.sources.now c.args.partners.now.listeners.now c.requires.new c.enrolled_copy.ensures (told_of c.best_of.result) c.best_of.ensures
