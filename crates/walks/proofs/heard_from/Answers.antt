use Rattle.std.proofs.Common.{sym, ◌∙◌}
use Rattle.units.specs.Has.{has}
use Rattle.walks.proofs.Walked.{unheard, walked_start, walked_more, left-falls, walked-done}
use Rattle.walks.proofs.heard_from.Goals as goal

pub returns-then-not-stands : goal.returns-then-not-stands
returns-then-not-stands g c t =
    c.empty.ensures t ∙ sym (unheard (g.M.Map.meaning c.args.m.now) c.sound.ensures c.args.s t (sym c.if-not-stands.ensures))

pub loop-level-init : goal.loop-level-init
loop-level-init g c =
    walked_start (g.M.Map.meaning c.args.m.now) c.args.s (has c.only-seen.result) (sym c.if-not-stands.ensures) c.only-seen.ensures

pub loop-level-smaller : goal.loop-level-smaller
loop-level-smaller g c =
    let some = c.loop-level-test.ensures in
    left-falls (g.M.Map.meaning c.args.m.now) c.sound.ensures c.args.s (has c.loop-level.seen) (has c.loop-level.level) (has c.next_level-level.result) (has c.next_level-level.new.seen)
    c.next_level-level.ensures.next c.next_level-level.ensures.seen c.loop-level.invariant some.0 some.1

pub loop-level-preserved : goal.loop-level-preserved
loop-level-preserved g c =
    walked_more (g.M.Map.meaning c.args.m.now) c.sound.ensures c.args.s (has c.loop-level.seen) (has c.loop-level.level) (has c.next_level-level.result) (has c.next_level-level.new.seen)
    c.next_level-level.ensures.next c.next_level-level.ensures.seen c.loop-level.invariant

pub returns : goal.returns
returns g c =
    walked-done (g.M.Map.meaning c.args.m.now) c.sound.ensures c.args.s (has c.loop-level.seen) (has c.loop-level.level) c.loop-level.invariant c.loop-level-test.ensures
