use Rattle.std.proofs.Common.{refl}
use Rattle.grammar.specs.Grammar as said
use Rattle.names.specs.Cards.{names_of}
use Rattle.plain_named.specs.Lines.{Pair, asked}
use Rattle.plain_named.proofs.Obeying.{two-asked, two-refused}
use Rattle.named.proofs.Carrying.{name-refused, change-refused, change-granted}
use Rattle.named.proofs.NamedBook.pair.Goals as goal

pub returns-in_err-a : goal.returns-in_err-a
unfolding asked
returns-in_err-a g c =
    name-refused g.S.Map.meaning g.S.Store.room c.args.self.now (said.Pair c.args.names.source.now c.args.names.listener.now) c.requires _
    (two-refused (names_of c.args.self.now.cards) Pair c.args.names.source.now c.args.names.listener.now _ c.in_err-a.ensures) c.from_residual.result c.from_residual.ensures.1

pub returns-in_err-labels : goal.returns-in_err-labels
unfolding asked
returns-in_err-labels g c =
    change-refused g.S.Map.meaning g.S.Store.room c.args.self.now (said.Pair c.args.names.source.now c.args.names.listener.now) (Pair c.in_ok-a.a c.in_ok-a.b)
    (two-asked (names_of c.args.self.now.cards) Pair c.args.names.source.now c.args.names.listener.now c.in_ok-a.a c.in_ok-a.b c.in_ok-a.ensures) _ _ c.in_err-labels.ensures.applied
    c.in_err-labels.ensures.whole (c.in_err-labels.ensures.kept _ refl) c.from_residual-in_err-labels.result c.from_residual-in_err-labels.ensures.1

pub returns : goal.returns
unfolding asked
returns g c =
    change-granted g.S.Map.meaning g.S.Store.room c.args.self.now (said.Pair c.args.names.source.now c.args.names.listener.now) (Pair c.in_ok-a.a c.in_ok-a.b)
    (two-asked (names_of c.args.self.now.cards) Pair c.args.names.source.now c.args.names.listener.now c.in_ok-a.a c.in_ok-a.b c.in_ok-a.ensures) _ c.args.self.now.cards c.in_ok-labels.labels
    c.in_ok-labels.ensures.applied c.in_ok-labels.ensures.whole refl refl
