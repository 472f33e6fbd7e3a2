-- What cannot be read is no lawful page.
use Rattle.std.proofs.Common.{◌≡◌, ℕ, false, List, None, subst, rules}
use Rattle.std.proofs.lemmas.Bool.{both_ways}
use Rattle.std.proofs.lemmas.Result.{err_from_is_err_and}
use Rattle.plain.specs.declared.BookFault.TheVariants as fault
use Rattle.plain.specs.Pages.{has_form}
use Rattle.page_laws.specs.Parts.{Parts}
use Rattle.std.proofs.lemmas.Option.{MatchOption-at_none}
use Rattle.page_laws.proofs.Causes.{refused-page}
use Rattle.page.proofs.read.Goals as goal

pub returns-in_err-formed : goal.returns-in_err-formed
returns-in_err-formed c =
    let p = err_from_is_err_and c.from_residual.result c.from_residual.ensures.1 in
    let is : c.in_err-formed.field-0.0 ≡ fault.UnlawfulPage = search rules in
    let none : c.of.result ≡ None = search rules in
    let no : has_form c.args.page.now ≡ false = search rules in
    rw (p.1, p.2, is) (refused-page c.args.page.now (λ q. both_ways _ no q.form))

pub returns-in_err-ranked : goal.returns-in_err-ranked
returns-in_err-ranked c =
    let p = err_from_is_err_and c.from_residual-in_err-ranked.result c.from_residual-in_err-ranked.ensures.1 in
    let is : c.in_err-ranked.field-0.0 ≡ fault.UnlawfulPage = search rules in
    let none : c.read_units.result ≡ None = search rules in
    let same : c.in_ok-formed.formed ≡ c.args.page.now = search rules in
    rw (p.1, p.2, is) (refused-page c.args.page.now (subst (λ (q : List ℕ). Parts q → ⊥) same (MatchOption-at_none _ _ none c.read_units.ensures)))

pub returns-in_err-rows : goal.returns-in_err-rows
returns-in_err-rows c =
    let p = err_from_is_err_and c.from_residual-in_err-rows.result c.from_residual-in_err-rows.ensures.1 in
    let is : c.in_err-rows.field-0.0 ≡ fault.UnlawfulPage = search rules in
    let none : c.read_rows.result ≡ None = search rules in
    let same : c.in_ok-ranked.ranked.page ≡ c.args.page.now = search rules in
    rw (p.1, p.2, is) (refused-page c.args.page.now (subst (λ (q : List ℕ). Parts q → ⊥) same (MatchOption-at_none _ _ none c.read_rows.ensures)))
