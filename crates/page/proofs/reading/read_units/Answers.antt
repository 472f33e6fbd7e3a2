-- The order so far is the front of the units; a number that is not taken breaks a rule of the page.
use Rattle.std.proofs.Common.{◌≡◌, ℕ, ◌<◌, Bool, true, false, not, ◌&&◌, cond, leb, List, [], ◌∷◌, ◌++◌, Option, Some, None, subst, sym, ap, ◌∙◌, inl, inr, arith}
use Rattle.std.proofs.lemmas.Bool.{cases_Bool, cases_eq, le-leb, cond-true}
use Rattle.std.specs.Option.{MatchOption}
use Rattle.theory.specs.Maps.{listed}
use Rattle.ranks.specs.Orders.{is_new}
use Rattle.plain.specs.Pages.{unit_count, unit_in}
use Rattle.page_laws.specs.Parts.{Parts}
use Rattle.page_laws.proofs.Units.{units-grown, units-all, unit-listed, unit-zero, front}
use Rattle.page.specs.declared.ranked.Ranked.{Ranked}
use Rattle.page.proofs.reading.read_units.Goals as goal

-- on a lawful page the next unit is a new one
next-new : (page : List ℕ) (i u : ℕ) (order : List ℕ) → i < unit_count page → u ≡ unit_in page i → order ≡ front page i → Parts page → is_new order u ≡ true
next-new page i u order within is so_far parts = elim (cases_eq u 0) [
  | inl zero ↦ absurd (unit-zero page i within (sym is ∙ zero) parts)
  | inr some ↦ elim (cases_Bool (listed u order)) [
    | inl twice ↦ absurd (unit-listed page i within (sym (ap (λ (x : ℕ). listed x (front page i)) is) ∙ sym (ap (listed u) so_far) ∙ twice) parts)
    | inr once ↦ ap (λ b. b && not (listed u order)) (le-leb 1 u (omega (arith, some))) ∙ ap not once
  ]
]

pub returns-in_err-push : goal.returns-in_err-push
returns-in_err-push c =
    let page = c.args.page in
    subst (λ (r : Option Ranked). MatchOption r (Parts page → ⊥) (λ t. t.page ≡ page)) (sym c.from_residual.ensures)
    (λ parts.
    let within = subst (λ n. c.loop-i.i < n) c.units-i-end.ensures.is c.loop-i-test.true in
    let taken = cond-true (is_new c.loop-i.ranks c.unit.result) (Some (tt {0})) None (next-new page c.loop-i.i c.unit.result c.loop-i.ranks within c.unit.ensures c.loop-i.invariant parts) in
    let refused : ◌≡◌ {A = Option (Unit {0})} None (Some (tt {0})) = c.in_err-push.ensures.told ∙ taken in
    absurd cc)

-- what a push leaves that was not refused
pushed : (b : Bool) (xs ys new : List ℕ) → ◌≡◌ {A = Option (Unit {0})} (Some (tt {0})) (cond b (Some (tt {0})) None) → new ≡ cond b ys xs → new ≡ ys
pushed true xs ys new told left = left
pushed false xs ys new told left = absurd cc

pub loop-i-preserved : goal.loop-i-preserved
loop-i-preserved c =
    let page = c.args.page in
    let i = c.loop-i.i in
    let order = c.loop-i.ranks in
    pushed (is_new order c.unit.result) order (order ++ c.unit.result ∷ []) _ c.in_ok-push.ensures.told c.in_ok-push.ensures.left
    ∙ ap (λ (xs : List ℕ). xs ++ c.unit.result ∷ []) c.loop-i.invariant ∙ ap (λ (u : ℕ). front page i ++ u ∷ []) c.unit.ensures ∙ sym (units-grown page i)

pub invariant_of-result : goal.invariant_of-result
invariant_of-result c =
    let here : c.loop-i.i ≡ unit_count c.args.page = let a = c.loop-i-test.false in let b = c.loop-i.auto.i-end in let n = c.units-i-end.ensures.is in omega arith in
    record { units = c.loop-i.invariant ∙ ap (front c.args.page) here ∙ sym (units-all c.args.page) }
