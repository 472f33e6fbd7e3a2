-- A unit of the list adds itself and its in-holders, or nothing.
use Rattle.std.proofs.Common.{◌&&◌, ◌||◌, eqb, get_or, sym, refl, ap, ◌∙◌}
use Rattle.units.specs.Has.{has}
use Rattle.labels.specs.Holding.{holds}
use Rattle.labels.specs.Asked.{covered}
use Rattle.labels.proofs.Gathered.{gathered-more, gathered-end, skipped, joined}
use Rattle.labels.proofs.ranked.cover.Goals as goal
use Rattle.labels.proofs.ranked.cover.Goals.{then-holds, else-holds}

pub loop-w-preserved : goal.loop-w-preserved
loop-w-preserved c y =
    let ins = holds c.args.ins.now in
    let outs = holds c.args.outs.now in
    let u = c.args.u in
    let x = get_or c.args.units.now c.loop-w.w-index 0 in
    let old = has c.loop-w.all y in
    gathered-more (λ ws. covered ins outs ws u y) (λ w. outs w u && (eqb y w || ins w y)) refl (λ w ws. refl) c.args.units.now c.loop-w.w-index old _ (c.loop-w.invariant y) _ (elim c.if-holds.branch [
      | then-holds w ↦
          ap (λ s. has s y) w.all-is
          ∙ w.union-all.ensures y
          ∙ ap (λ b. old || b) (w.with_own.ensures y)
          ∙ joined old (outs x u) (eqb y x || ins x y) (sym w.if-holds.ensures)
      | else-holds w ↦ ap (λ s. has s y) w.all-is ∙ skipped old (outs x u) (eqb y x || ins x y) (sym w.if-holds.ensures)
    ]) c.loop-w-test.true

pub returns : goal.returns
returns c y =
    let ins = holds c.args.ins.now in
    let outs = holds c.args.outs.now in
    let u = c.args.u in
    gathered-end (λ ws. covered ins outs ws u y) (λ w. outs w u && (eqb y w || ins w y)) refl (λ w ws. refl) c.args.units.now c.loop-w.w-index (has c.loop-w.all y) _ (c.loop-w.invariant y) c.loop-w-test.false
