use Rattle.std.proofs.Common.{refl}
use Rattle.book.specs.Views.{plain_of}
use Rattle.book.proofs.Reaching.{sheet-lawful, reach-granted, reach-refused}
use Rattle.book.proofs.Book.reach.Goals as goal

pub returns-in_err-check_reach : goal.returns-in_err-check_reach
returns-in_err-check_reach g c =
    let told = reach-refused g.S.Store.room (g.S.Map.meaning c.args.self.now.store) c.args.self.now.ranks c.requires.stored c.requires.lawful c.args.s c.args.t c.args.sheet.now
    _ c.from_residual.result c.in_err-check_reach.ensures c.from_residual.ensures.1 in
    record { told = told.0; chains = told.1; same = refl }

pub reach-requires : goal.reach-requires
reach-requires g c =
    let lawful = sheet-lawful (plain_of g.S.Map.meaning c.args.self.now) c.args.s c.args.t c.args.sheet.now c.in_ok-check_reach.ensures in
    record { wide = lawful.0; clean = lawful.1 }

pub returns : goal.returns
returns g c =
    let told = reach-granted g.S.Store.room (g.S.Map.meaning c.args.self.now.store) c.args.self.now.ranks c.requires.stored c.requires.lawful c.args.s c.args.t c.args.sheet.now
    c.in_ok-check_reach.ensures c.reach.result c.reach.ensures.fewest c.reach.ensures.few in
    record { told = told.0; chains = told.1; same = c.reach.ensures.same }
