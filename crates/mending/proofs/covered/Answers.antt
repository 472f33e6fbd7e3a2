use Rattle.std.proofs.Common.{ℕ, ◌<◌, ◌&&◌, ◌||◌, get_or, ap, ◌∙◌, arith}
use Rattle.std.proofs.lemmas.List.{length-take-le, get_or-take}
use Rattle.units.specs.Has.{has}
use Rattle.labels.specs.Holding.{holds}
use Rattle.mending.specs.Steps.{rows}
use Rattle.mending.proofs.Marking.{marking-none, marking-more, marking-all}
use Rattle.mending.proofs.covered.Goals as goal

pub loop-w-init : goal.loop-w-init
loop-w-init c =
    let turn = c.args.turn in
    marking-none turn.order.now (rows c.args.ins.now c.args.outs.now) (get_or turn.order.now turn.k 0) turn.k (has turn.done.now) (omega (arith, turn.place)) turn.firsts

pub loop-w-preserved : goal.loop-w-preserved
loop-w-preserved c =
    let turn = c.args.turn in
    let long = length-take-le turn.k turn.order.now (omega (arith, turn.place)) in
    let within : c.loop-w.w-index < turn.k = omega (arith, long, c.loop-w-test.true) in
    let at = get_or-take turn.k turn.order.now c.loop-w.w-index 0 within in
    marking-more turn.order.now (rows c.args.ins.now c.args.outs.now) (get_or turn.order.now turn.k 0) turn.k c.loop-w.w-index within (has c.loop-w.marks) (has c.mark-marks.result)
    (λ x. c.mark-marks.ensures x ∙ ap (λ (w : ℕ). has c.loop-w.marks x || (holds c.args.outs.now w (get_or turn.order.now turn.k 0) && holds c.args.ins.now w x)) at) c.loop-w.invariant

pub returns : goal.returns
returns c =
    let turn = c.args.turn in
    let long = length-take-le turn.k turn.order.now (omega (arith, turn.place)) in
    marking-all turn.order.now c.requires (rows c.args.ins.now c.args.outs.now) turn.k c.loop-w.w-index turn.place (omega (arith, long, c.loop-w-test.false, c.loop-w.auto.w-index-end)) (has c.loop-w.marks) c.loop-w.invariant
