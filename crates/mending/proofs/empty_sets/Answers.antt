use Rattle.std.proofs.Common.{◌≡◌, length, ap, ◌∙◌, arith}
use Rattle.units.specs.Has.{has}
use Rattle.units.specs.Listed.{left, members}
use Rattle.units.proofs.Listing.{all-given, all-listed, next-turn, next-given, length-members, before-next}
use Rattle.labels.specs.Holding.{holds}
use Rattle.mending.proofs.Emptying.{emptying-none, emptying-more, emptying-all}
use Rattle.mending.proofs.empty_sets.Goals as goal

pub loop-u-init : goal.loop-u-init
loop-u-init c = emptying-none (holds c.args.table.now)

pub overflow_add-total : goal.overflow_add-total
overflow_add-total c =
    let all : left c.into_iter-u-iterator.result ≡ members c.args.gone.now = ap left c.into_iter-u-iterator.ensures.into_iter_gives ∙ c.iter-u-items.ensures in
    let next = next-given c.args.gone.now _ all c.loop-u.yielded _ _ _ c.in-Some.u c.loop-u.yielded_by c.in-Some.is c.next.ensures.steps in
    let few = before-next c.args.gone.now c.loop-u.yielded _ c.in-Some.u next in
    let so_far = c.loop-u.invariant.most in
    let more = c.replace-total.ensures.most in
    omega arith

pub loop-u-preserved : goal.loop-u-preserved
loop-u-preserved c =
    let all : left c.into_iter-u-iterator.result ≡ members c.args.gone.now = ap left c.into_iter-u-iterator.ensures.into_iter_gives ∙ c.iter-u-items.ensures in
    let turn = next-turn c.args.gone.now _ all c.loop-u.yielded _ _ _ c.in-Some.u c.loop-u.yielded_by c.in-Some.is c.next.ensures.steps in
    emptying-more c.loop-u.yielded c.in-Some.u turn.1 (holds c.args.table.now) (holds c.loop-u.table) (holds c.replace-total.new.table)
    (has c.empty.result) c.empty.ensures c.loop-u.total c.replace-total.result c.replace-total.ensures.row c.replace-total.ensures.number c.replace-total.ensures.most c.loop-u.invariant

pub returns : goal.returns
returns c =
    let all : left c.into_iter-u-iterator.result ≡ members c.args.gone.now = ap left c.into_iter-u-iterator.ensures.into_iter_gives ∙ c.iter-u-items.ensures in
    record {
      sets = emptying-all (has c.args.gone.now) c.loop-u.yielded (all-listed c.args.gone.now _ all c.loop-u.yielded _ _ _ c.loop-u.yielded_by c.in-None.is c.next.ensures.steps)
          (holds c.args.table.now) (holds c.loop-u.table) c.loop-u.total c.loop-u.invariant;
      number = c.loop-u.invariant.number;
      most =
          let whole = ap length (all-given c.args.gone.now _ all c.loop-u.yielded _ _ _ c.loop-u.yielded_by c.in-None.is c.next.ensures.steps) in
          let few = c.loop-u.invariant.most in
          let short = length-members c.args.gone.now in
          omega arith;
    }
