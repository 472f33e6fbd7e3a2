use Rattle.std.proofs.Common.{arith}
use Rattle.book.proofs.Agree.{keeps}
use Rattle.book.proofs.Placing.{place-new, place-granted, place-refused}
use Rattle.book.proofs.Book.best_place.Goals as goal

pub returns-in_err-check_place : goal.returns-in_err-check_place
returns-in_err-check_place g c =
    let told = place-refused g.S.Store.room (g.S.Map.meaning c.args.self.now.store) c.args.self.now.ranks c.args.v c.args.sources.now c.args.listeners.now
    _ c.from_residual.result c.in_err-check_place.ensures c.from_residual.ensures.1 in
    record { told = told.0; best = told.1 }

pub best_place-requires : goal.best_place-requires
best_place-requires g c =
    let k = keeps (g.S.Map.meaning c.args.self.now.store) c.args.self.now.ranks c.args.self.now.labels c.requires in
    record {
      orders = k.orders;
      new = place-new g.S.Store.room (g.S.Map.meaning c.args.self.now.store) c.args.self.now.ranks c.args.self.now.labels k c.args.v (omega arith) c.args.sources.now c.args.listeners.now c.in_ok-check_place.ensures;
    }

pub returns : goal.returns
returns g c =
    let k = keeps (g.S.Map.meaning c.args.self.now.store) c.args.self.now.ranks c.args.self.now.labels c.requires in
    let told = place-granted g.S.Store.room (g.S.Map.meaning c.args.self.now.store) c.args.self.now.ranks c.args.self.now.labels k c.args.v (omega arith) c.args.sources.now c.args.listeners.now c.in_ok-check_place.ensures
    c.best_place.result c.best_place.ensures in
    record { told = told.0; best = told.1 }
