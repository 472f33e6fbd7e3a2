use Rattle.std.proofs.Common.{◌≡◌, ◌||◌, ap, ◌∙◌, arith, length-set}
use Rattle.units.specs.Has.{has}
use Rattle.units.specs.Listed.{left, members}
use Rattle.units.proofs.Listing.{all-listed, next-turn}
use Rattle.sheets.specs.Sheets.{marked}
use Rattle.sheets.proofs.Marking.{marks-more, below_more, above-zero}
use Rattle.sheets.proofs.SheetMarksMarks.mark.Goals as goal

pub loop-u-preserved : goal.loop-u-preserved
loop-u-preserved c =
    let all : left c.into_iter-u-iterator.result ≡ members c.args.set.now = ap left c.into_iter-u-iterator.ensures.into_iter_gives ∙ c.iter-u-items.ensures in
    let turn = next-turn c.args.set.now _ all c.loop-u.yielded _ _ _ c.in-Some.u c.loop-u.yielded_by c.in-Some.is c.next.ensures.steps in
    let low = above-zero (has c.args.set.now) c.requires c.in-Some.u turn.0 in
    let inv = c.loop-u.invariant in (
      marks-more c.args.self.now.sheet.now c.loop-u.self.sheet.now c.loop-u.yielded c.in-Some.u low (omega arith) inv.0,
      below_more c.args.self.now.sheet.now c.loop-u.self.sheet.now c.loop-u.yielded c.in-Some.u low (omega arith) inv.0 inv.1,
      inv.2,
      simp length-set inv.3,
    )

pub overflow_sub-place : goal.overflow_sub-place
overflow_sub-place c =
    let all : left c.into_iter-u-iterator.result ≡ members c.args.set.now = ap left c.into_iter-u-iterator.ensures.into_iter_gives ∙ c.iter-u-items.ensures in
    let turn = next-turn c.args.set.now _ all c.loop-u.yielded _ _ _ c.in-Some.u c.loop-u.yielded_by c.in-Some.is c.next.ensures.steps in
    above-zero (has c.args.set.now) c.requires c.in-Some.u turn.0

pub returns-clause-marked : goal.returns-clause-marked
returns-clause-marked c k =
    let all : left c.into_iter-u-iterator.result ≡ members c.args.set.now = ap left c.into_iter-u-iterator.ensures.into_iter_gives ∙ c.iter-u-items.ensures in
    c.loop-u.invariant.0 k ∙ ap (λ b. marked c.args.self.now.sheet.now k || b) (all-listed c.args.set.now _ all c.loop-u.yielded _ _ _ c.loop-u.yielded_by c.in-None.is c.next.ensures.steps k)
