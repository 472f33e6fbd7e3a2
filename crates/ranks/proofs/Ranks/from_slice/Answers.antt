-- A number that is not taken breaks the law.
use Rattle.std.proofs.Common.{◌≡◌, Option, Some, None, sym, subst, ◌∙◌}
use Rattle.std.proofs.lemmas.Bool.{cond-true}
use Rattle.std.specs.Option.{MatchOption}
use Rattle.ranks.specs.declared.Ranks.{Ranks}
use Rattle.ranks.specs.Orders.{Lawful, is_new}
use Rattle.ranks.proofs.Whole.{front-new}
use Rattle.ranks.proofs.Ranks.from_slice.Goals as goal

pub returns-in_err-push : goal.returns-in_err-push
returns-in_err-push c =
    let units = c.args.units.now in
    let order = c.loop-u.ranks in
    subst (λ (r : Option Ranks). MatchOption r (Lawful units → ⊥) (λ t. t ≡ units)) (sym c.from_residual.ensures)
    (λ law.
    let taken = cond-true (is_new order _) (Some (tt {0})) None (front-new units order c.loop-u.u-index c.loop-u-test.true c.loop-u.invariant law) in
    let refused : ◌≡◌ {A = Option (Unit {0})} None (Some (tt {0})) = c.in_err-push.ensures.told ∙ taken in
    absurd cc)
