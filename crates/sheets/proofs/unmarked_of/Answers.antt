use Rattle.std.proofs.Common.{◌≡◌, not, ◌&&◌, ap, ◌∙◌, sym}
use Rattle.units.specs.Has.{has}
use Rattle.units.specs.Listed.{left, members}
use Rattle.units.proofs.Listing.{all-listed}
use Rattle.sheets.specs.Sheets.{marked}
use Rattle.sheets.proofs.Marking.{unmarked-more, taken-more, of-members}
use Rattle.sheets.proofs.unmarked_of.Goals as goal

pub loop-u-preserved-then-is_marked : goal.loop-u-preserved-then-is_marked
loop-u-preserved-then-is_marked c k =
    c.remove.ensures k
    ∙ taken-more (has c.args.set.now) (has c.loop-u.rest) (marked c.args.sheet.now) c.loop-u.yielded c.in-Some.u c.loop-u.invariant (sym c.is_marked.ensures ∙ c.if-is_marked.true) k

pub loop-u-preserved : goal.loop-u-preserved
loop-u-preserved c =
    unmarked-more (has c.args.set.now) (has c.loop-u.rest) (marked c.args.sheet.now) c.loop-u.yielded c.in-Some.u c.loop-u.invariant (sym c.is_marked.ensures ∙ c.if-is_marked.false)

pub returns : goal.returns
returns c k =
    let all : left c.into_iter-u-iterator.result ≡ members c.args.set.now = ap left c.into_iter-u-iterator.ensures.into_iter_gives ∙ c.iter-u-items.ensures in
    c.loop-u.invariant k
    ∙ ap (λ b. has c.args.set.now k && not (b && marked c.args.sheet.now k)) (all-listed c.args.set.now _ all c.loop-u.yielded _ _ _ c.loop-u.yielded_by c.in-None.is c.next.ensures.steps k)
    ∙ of-members (has c.args.set.now k) (marked c.args.sheet.now k)
