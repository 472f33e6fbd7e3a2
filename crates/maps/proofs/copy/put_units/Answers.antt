use Rattle.std.proofs.Common.{◌≡◌, ap, sym, ◌∙◌}
use Rattle.theory.specs.Maps.{with_unit}
use Rattle.units.specs.Listed.{left, members}
use Rattle.units.proofs.Listing.{all-listed, next-turn}
use Rattle.maps.proofs.Copies.{unit-granted, units-more, units-done, not-refused}
use Rattle.maps.proofs.copy.put_units.Goals as goal

pub returns-in_err-put : goal.returns-in_err-put
returns-in_err-put g c =
    let all : left c.into_iter-u-iterator.result ≡ members c.units-units.result = ap left c.into_iter-u-iterator.ensures.into_iter_gives ∙ c.iter-u-items.ensures in
    let (is, fresh) = next-turn c.units-units.result _ all c.loop-u.yielded _ _ _ c.in-Some.u c.loop-u.yielded_by c.in-Some.is c.next.ensures.steps in
    absurd (not-refused _ _
    (unit-granted (g.M.Map.meaning c.args.from.now) c.sound.ensures (g.S.Map.meaning c.loop-u.into) c.in-Some.u c.loop-u.yielded
    c.loop-u.invariant (sym (c.units-units.ensures c.in-Some.u) ∙ is, fresh))
    c.in_err-put.ensures.0)

pub loop-u-preserved : goal.loop-u-preserved
loop-u-preserved g c =
    c.in_ok-put.ensures.1 ∙ ap (with_unit c.in-Some.u) c.loop-u.invariant ∙ units-more c.in-Some.u c.loop-u.yielded

pub returns-clause-left : goal.returns-clause-left
returns-clause-left g c =
    let all : left c.into_iter-u-iterator.result ≡ members c.units-units.result = ap left c.into_iter-u-iterator.ensures.into_iter_gives ∙ c.iter-u-items.ensures in
    let end = all-listed c.units-units.result _ all c.loop-u.yielded _ _ _ c.loop-u.yielded_by c.in-None.is c.next.ensures.steps in
    c.loop-u.invariant ∙ units-done c.loop-u.yielded (g.M.Map.meaning c.args.from.now) (λ k. end k ∙ c.units-units.ensures k)
