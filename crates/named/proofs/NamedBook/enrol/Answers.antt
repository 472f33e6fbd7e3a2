use Rattle.std.proofs.Common.{refl}
use Rattle.grammar.specs.Grammar as said
use Rattle.names.specs.Cards.{names_of}
use Rattle.plain_named.specs.Lines.{Enrol}
use Rattle.plain_named.proofs.Obeying.{new-asked, new-refused}
use Rattle.named.proofs.Carrying.{name-refused, change-refused, change-granted}
use Rattle.named.proofs.NamedBook.enrol.Goals as goal

pub returns-in_err-check_free : goal.returns-in_err-check_free
returns-in_err-check_free g c =
    name-refused g.S.Map.meaning g.S.Store.room c.args.self.now (said.Enrol c.args.number c.args.name.now c.args.rank) c.requires.agreed _
    (new-refused (names_of c.args.self.now.cards) c.args.number c.digits.result c.args.name.now c.args.rank _ c.digits.ensures.is c.in_err-check_free.ensures) c.from_residual.result c.from_residual.ensures.1

pub returns-in_err-labels : goal.returns-in_err-labels
returns-in_err-labels g c =
    change-refused g.S.Map.meaning g.S.Store.room c.args.self.now (said.Enrol c.args.number c.args.name.now c.args.rank) (Enrol c.args.number c.args.name.now c.args.rank)
    (new-asked (names_of c.args.self.now.cards) c.args.number c.digits.result c.args.name.now c.args.rank c.digits.ensures.is c.in_ok-check_free.ensures) _ _ c.in_err-labels.ensures.applied
    c.in_err-labels.ensures.whole (c.in_err-labels.ensures.kept _ refl) c.from_residual-in_err-labels.result c.from_residual-in_err-labels.ensures.1

pub returns : goal.returns
returns g c =
    change-granted g.S.Map.meaning g.S.Store.room c.args.self.now (said.Enrol c.args.number c.args.name.now c.args.rank) (Enrol c.args.number c.args.name.now c.args.rank)
    (new-asked (names_of c.args.self.now.cards) c.args.number c.digits.result c.args.name.now c.args.rank c.digits.ensures.is c.in_ok-check_free.ensures) _ _ c.in_ok-labels.labels
    c.in_ok-labels.ensures.applied c.in_ok-labels.ensures.whole refl c.write.ensures
