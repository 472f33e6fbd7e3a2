-- A unit is seen again, or is one more that was seen.
use Rattle.std.proofs.Common.{◌||◌, sym, ap}
use Rattle.units.specs.Has.{has}
use Rattle.plain.specs.Lists.{doubled}
use Rattle.partners.proofs.Found.{some-none, seen-again, seen_more, seen_all}
use Rattle.partners.proofs.any_doubled.Goals as goal

pub loop-u-init : goal.loop-u-init
loop-u-init c = ap (λ b. b || doubled c.args.units.now) (some-none (has c.empty-seen.result) c.empty-seen.ensures c.args.units.now)

pub returns-then-contains : goal.returns-then-contains
returns-then-contains c = sym (seen-again (has c.loop-u.seen) c.args.units.now c.loop-u.u-index c.loop-u.invariant c.loop-u-test.true (sym c.if-contains.ensures))

pub loop-u-preserved : goal.loop-u-preserved
loop-u-preserved c =
    seen_more (has c.loop-u.seen) c.args.units.now c.loop-u.u-index c.loop-u.invariant _ c.insert.ensures c.loop-u-test.true (sym c.if-contains.ensures)

pub returns : goal.returns
returns c = sym (seen_all (has c.loop-u.seen) c.args.units.now c.loop-u.u-index c.loop-u.invariant c.loop-u-test.false)
