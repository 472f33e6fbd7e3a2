-- The unit stands at its rank, and the ranks are numbered anew from there on.
use Rattle.std.proofs.Common.{◌≡◌, ◌-◌, take, set, Some, None, sym, ap, ◌∙◌, arith}
use Rattle.theory.specs.Ranks.{removed}
use Rattle.ranks.specs.Orders.{rank_found}
use Rattle.ranks.specs.Fields.{filled}
use Rattle.ranks.proofs.Whole.{Stands, stands, not_found}
use Rattle.ranks.proofs.Changes.{Changed, remove_changed}
use Rattle.ranks.proofs.Ranks.remove.Goals.{In-Some, After-take_out}
use Rattle.ranks.proofs.Ranks.remove.Goals as goal

there : (c : In-Some) → Stands (take c.self.inside.n c.self.inside.order) c.args.u c.in-Some.rank
there c =
    let s = c.self.inside in
    stands (take s.n s.order) c.args.u c.in-Some.rank c.self.invariant.ranking.lawful.once (ap (λ l. rank_found l c.args.u) c.self.view_is ∙ sym c.rank_of.ensures ∙ c.in-Some.is)

pub overflow_sub-rank : goal.overflow_sub-rank
overflow_sub-rank c = (there (goal.at.overflow_sub-rank c).In-Some).low

pub take_out-requires : goal.take_out-requires
take_out-requires c =
    let s = c.self.inside in
    record { within = omega (arith, filled s.order s.n s.place c.self.invariant, (there (goal.at.take_out-requires c).In-Some).within) }

taken : (c : After-take_out) → Changed (set c.self.inside.place c.args.u None) (removed c.args.u (take c.self.inside.n c.self.inside.order)) c.take_out.new.order c.take_out.new.n (c.in-Some.rank - 1)
taken c =
    let s = c.self.inside in
    let t = c.take_out.ensures in
    let there : rank_found (take s.n s.order) c.args.u ≡ Some c.in-Some.rank = ap (λ l. rank_found l c.args.u) c.self.view_is ∙ sym c.rank_of.ensures ∙ c.in-Some.is in
    remove_changed s.order s.n s.place c.self.invariant c.args.u c.in-Some.rank there c.take_out.new.order c.take_out.new.n t.count t.long t.above t.below (omega arith) t.last t.spare

pub renumber-requires-clause-within : goal.renumber-requires-clause-within
renumber-requires-clause-within c = (taken (goal.at.renumber-requires-clause-within c).After-take_out).within

pub renumber-requires-clause-once : goal.renumber-requires-clause-once
renumber-requires-clause-once c = (taken (goal.at.renumber-requires-clause-once c).After-take_out).once

pub renumber-requires-clause-before : goal.renumber-requires-clause-before
renumber-requires-clause-before c = (taken (goal.at.renumber-requires-clause-before c).After-take_out).before

pub invariant_of-self : goal.invariant_of-self
invariant_of-self c =
    (taken (goal.at.invariant_of-self c).After-take_out).kept c.renumber.new.place c.renumber.ensures.long c.renumber.ensures.numbered c.renumber.ensures.kept

pub returns-in-Some : goal.returns-in-Some
returns-in-Some c = (taken (goal.at.returns-in-Some c).After-take_out).is ∙ ap (removed c.args.u) c.self.view_is

pub returns-in_default : goal.returns-in_default
returns-in_default c = sym (not_found c.args.self.now c.args.u (sym c.rank_of.ensures ∙ c.in_default.is))
