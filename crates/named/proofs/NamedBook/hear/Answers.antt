use Rattle.std.proofs.Common.{refl}
use Rattle.grammar.specs.Grammar as said
use Rattle.names.specs.Cards.{names_of}
use Rattle.plain.specs.Requests.{granted}
use Rattle.answers.specs.declared.Told.TheVariants.{Heard}
use Rattle.plain_named.specs.Lines.{Hear, asked}
use Rattle.plain_named.proofs.Obeying.{two-asked, two-refused}
use Rattle.named.proofs.Carrying.{name-refused, asked-book, exit-of}
use Rattle.named.proofs.NamedBook.hear.Goals as goal

pub returns-in_err-a : goal.returns-in_err-a
unfolding asked
returns-in_err-a g c =
    name-refused g.S.Map.meaning g.S.Store.room c.args.self.now (said.Hear c.args.names.source.now c.args.names.listener.now) c.requires _
    (two-refused (names_of c.args.self.now.cards) Hear c.args.names.source.now c.args.names.listener.now _ c.in_err-a.ensures) c.from_residual.result c.from_residual.ensures.1

pub returns-in_err-hears : goal.returns-in_err-hears
unfolding asked granted
returns-in_err-hears g c =
    asked-book g.S.Map.meaning g.S.Store.room c.args.self.now (said.Hear c.args.names.source.now c.args.names.listener.now) (Hear c.in_ok-a.a c.in_ok-a.b)
    (two-asked (names_of c.args.self.now.cards) Hear c.args.names.source.now c.args.names.listener.now c.in_ok-a.a c.in_ok-a.b c.in_ok-a.ensures) c.requires _ _ c.in_err-hears.ensures.told refl refl refl
    c.from_residual-in_err-hears.result (exit-of Heard _ c.from_residual-in_err-hears.result c.from_residual-in_err-hears.ensures.1)

pub returns : goal.returns
unfolding asked granted
returns g c =
    asked-book g.S.Map.meaning g.S.Store.room c.args.self.now (said.Hear c.args.names.source.now c.args.names.listener.now) (Hear c.in_ok-a.a c.in_ok-a.b)
    (two-asked (names_of c.args.self.now.cards) Hear c.args.names.source.now c.args.names.listener.now c.in_ok-a.a c.in_ok-a.b c.in_ok-a.ensures) c.requires _ _ c.in_ok-hears.ensures.told refl refl refl _ refl
