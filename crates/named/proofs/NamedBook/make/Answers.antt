use Rattle.std.proofs.Common.{◌≡◌, sym, ap, ◌∙◌, subst}
use Rattle.names.specs.Cards.{names_of}
use Rattle.names.specs.Names.{Names, nameless}
use Rattle.plain.specs.Plain.{Plain, empty}
use Rattle.book.specs.Views.{plain_of}
use Rattle.plain_named.specs.Named.{Named, WellNamed}
use Rattle.plain_named.proofs.Naming.{nobody-well}
use Rattle.named.proofs.NamedBook.make.Goals as goal

both : (p q : Plain) (names other : Names) → p ≡ q → names ≡ other → ◌≡◌ {A = Named} (record { book = p; names = names }) (record { book = q; names = other })
both p q names other e f = ap (λ (x : Plain). record { book = x; names = names }) e ∙ ap (λ (x : Names). record { book = q; names = x }) f

pub returns : goal.returns
returns g c =
    let e = both (plain_of g.S.Map.meaning c.make.result) empty (names_of c.blank.result) nameless c.make.ensures.empty c.blank.ensures in
    record { empty = e; agreed = (c.make.ensures.whole, subst WellNamed (sym e) nobody-well) }
