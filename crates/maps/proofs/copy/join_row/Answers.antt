use Rattle.std.proofs.Common.{◌≡◌, ap, sym, ◌∙◌}
use Rattle.theory.specs.Maps.{with_pair}
use Rattle.units.specs.Listed.{left, members}
use Rattle.units.proofs.Listing.{all-listed, next-turn}
use Rattle.maps.proofs.Copies.{row-granted, row-more, row-done, not-refused}
use Rattle.maps.proofs.copy.join_row.Goals as goal

-- no join is refused
pub returns-in_err-join : goal.returns-in_err-join
returns-in_err-join g c =
    let all : left c.into_iter-b-iterator.result ≡ members c.listeners-listeners.result = ap left c.into_iter-b-iterator.ensures.into_iter_gives ∙ c.iter-b-items.ensures in
    let (is, fresh) = next-turn c.listeners-listeners.result _ all c.loop-b.yielded _ _ _ c.in-Some.b c.loop-b.yielded_by c.in-Some.is c.next.ensures.steps in
    absurd (not-refused _ _
    (row-granted (g.M.Map.meaning c.args.from.now) c.sound.ensures (g.S.Map.meaning c.loop-b.into) c.args.a g.S.Store.room c.in-Some.b c.loop-b.yielded
    c.loop-b.invariant c.requires.fits (sym (c.listeners-listeners.ensures c.in-Some.b) ∙ is, fresh))
    c.in_err-join.ensures.0)

pub loop-b-preserved : goal.loop-b-preserved
loop-b-preserved g c =
    let m = g.M.Map.meaning c.args.from.now in
    let all : left c.into_iter-b-iterator.result ≡ members c.listeners-listeners.result = ap left c.into_iter-b-iterator.ensures.into_iter_gives ∙ c.iter-b-items.ensures in
    let turn = next-turn c.listeners-listeners.result _ all c.loop-b.yielded _ _ _ c.in-Some.b c.loop-b.yielded_by c.in-Some.is c.next.ensures.steps in
    c.in_ok-join.ensures.1 ∙ ap (with_pair c.args.a c.in-Some.b) c.loop-b.invariant
    ∙ row-more c.args.a c.in-Some.b c.loop-b.yielded m (sym (c.listeners-listeners.ensures c.in-Some.b) ∙ turn.0)

pub returns-clause-left : goal.returns-clause-left
returns-clause-left g c =
    let all : left c.into_iter-b-iterator.result ≡ members c.listeners-listeners.result = ap left c.into_iter-b-iterator.ensures.into_iter_gives ∙ c.iter-b-items.ensures in
    let end = all-listed c.listeners-listeners.result _ all c.loop-b.yielded _ _ _ c.loop-b.yielded_by c.in-None.is c.next.ensures.steps in
    c.loop-b.invariant ∙ row-done c.args.a c.loop-b.yielded (g.M.Map.meaning c.args.from.now) (λ k. end k ∙ c.listeners-listeners.ensures k)
