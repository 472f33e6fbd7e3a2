use Rattle.std.proofs.Common.{sym, refl, ◌∙◌, subst}
use Rattle.lines.specs.Lines.{said}
use Rattle.plain_named.specs.Named.{WellNamed}
use Rattle.plain_named.proofs.Naming.{after-well}
use Rattle.plain_named.proofs.Obeying.{form-told, form-left, said-told, said-left, from-obeyed}
use Rattle.named.specs.Views.{named_of}
use Rattle.named.proofs.NamedBook.reply.Goals as goal

pub returns-in_err-line : goal.returns-in_err-line
returns-in_err-line g c =
    let n = named_of g.S.Map.meaning c.args.self.now in
    let is = c.in_err-line.ensures.is in
    record {
      told = form-told g.S.Store.room n c.args.bytes.now _ c.from_residual.result is c.from_residual.ensures.1;
      left = form-left g.S.Store.room n c.args.bytes.now _ is;
      agreed = c.requires;
      kept = λ refusal e. refl;
    }

pub returns : goal.returns
returns g c =
    let n = named_of g.S.Map.meaning c.args.self.now in
    let s = said c.in_ok-line.line in
    let is = c.in_ok-line.ensures.is in
    let left = said-left g.S.Store.room n c.args.bytes.now s (named_of g.S.Map.meaning c.obey.new.self) is c.obey.ensures.obeyed.left in
    record {
      told = said-told g.S.Store.room n c.args.bytes.now s c.obey.result c.with_place.result is c.obey.ensures.obeyed.told c.with_place.ensures;
      left = left;
      agreed = (c.obey.ensures.whole, subst WellNamed (sym left) (after-well g.S.Store.room n c.args.bytes.now c.requires.1));
      kept = λ refusal e. from-obeyed s c.obey.result refusal (sym c.with_place.ensures ∙ e) c.obey.ensures.kept;
    }
