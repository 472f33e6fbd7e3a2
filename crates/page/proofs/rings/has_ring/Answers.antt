-- A listener is one of the units so far, or the unit at hand.
use Rattle.std.proofs.Common.{◌≡◌, ℕ, true, sym, ap, ◌∙◌, inl, inr}
use Rattle.std.proofs.lemmas.Bool.{cases_Bool, both_ways, and_from, or_cases, eqb-true}
use Rattle.theory.specs.Hearing.{is_heard}
use Rattle.theory.proofs.Distinct.{listed-more}
use Rattle.theory.proofs.Tests.{passes, passed}
use Rattle.units.specs.Listed.{left, members}
use Rattle.units.proofs.Listing.{all-listed}
use Rattle.page.proofs.rings.has_ring.Goals as goal

pub loop-b-preserved : goal.loop-b-preserved
loop-b-preserved g c a k on t =
    let m = g.M.Map.meaning c.args.m.now in
    elim (or_cases _ _ (sym (listed-more k c.loop-b.yielded c.in-Some.b) ∙ on)) [
      | inl here ↦
          let same = eqb-true k c.in-Some.b here in
          let pair : m.pair a c.in-Some.b ≡ true = ap (m.pair a) (sym same) ∙ t in
          elim (cases_Bool (is_heard m c.in-Some.b a)) [
            | inl h ↦ absurd (both_ways _ (c.if-closes_ring.ensures a) (and_from _ _ h pair))
            | inr f ↦ ap (λ (x : ℕ). is_heard m x a) same ∙ f
          ]
      | inr before ↦ c.loop-b.invariant a k before t
    ]

pub returns : goal.returns
returns g c a k t =
    let m = g.M.Map.meaning c.args.m.now in
    let all : left c.into_iter-b-iterator.result ≡ members c.units-units.result = ap left c.into_iter-b-iterator.ensures.into_iter_gives ∙ c.iter-b-items.ensures in
    let is = all-listed c.units-units.result _ all c.loop-b.yielded _ _ _ c.loop-b.yielded_by c.in-None.is c.next.ensures.steps k in
    c.loop-b.invariant a k (is ∙ c.units-units.ensures k ∙ passed _ (c.sound.ensures.to a k (passes _ t))) t
