use Rattle.std.proofs.Common.{refl}
use Rattle.grammar.specs.Grammar as said
use Rattle.names.specs.Cards.{names_of}
use Rattle.plain_named.specs.Lines.{Drop, asked}
use Rattle.plain_named.proofs.Obeying.{one-asked, one-refused}
use Rattle.named.proofs.Carrying.{name-refused, change-refused, change-granted}
use Rattle.named.proofs.NamedBook.drop_unit.Goals as goal

pub returns-in_err-unit : goal.returns-in_err-unit
unfolding asked
returns-in_err-unit g c =
    name-refused g.S.Map.meaning g.S.Store.room c.args.self.now (said.Drop c.args.name.now) c.requires _ (one-refused (names_of c.args.self.now.cards) Drop c.args.name.now _ c.in_err-unit.ensures)
    c.from_residual.result c.from_residual.ensures.1

pub returns-in_err-labels : goal.returns-in_err-labels
unfolding asked
returns-in_err-labels g c =
    change-refused g.S.Map.meaning g.S.Store.room c.args.self.now (said.Drop c.args.name.now) (Drop c.in_ok-unit.unit)
    (one-asked (names_of c.args.self.now.cards) Drop c.args.name.now c.in_ok-unit.unit c.in_ok-unit.ensures) _ _ c.in_err-labels.ensures.applied c.in_err-labels.ensures.whole
    (c.in_err-labels.ensures.kept _ refl) c.from_residual-in_err-labels.result c.from_residual-in_err-labels.ensures.1

pub returns : goal.returns
unfolding asked
returns g c =
    change-granted g.S.Map.meaning g.S.Store.room c.args.self.now (said.Drop c.args.name.now) (Drop c.in_ok-unit.unit)
    (one-asked (names_of c.args.self.now.cards) Drop c.args.name.now c.in_ok-unit.unit c.in_ok-unit.ensures) _ _ c.in_ok-labels.labels c.in_ok-labels.ensures.applied
    c.in_ok-labels.ensures.whole refl c.wipe.ensures
