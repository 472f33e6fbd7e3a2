-- A unit of the list adds what belongs to it.
use Rattle.std.proofs.Common.{◌||◌, get_or, refl, ap, ◌∙◌}
use Rattle.units.specs.Has.{has}
use Rattle.theory.proofs.Distinct.{on-at}
use Rattle.plain.specs.Lists.{some}
use Rattle.labels.proofs.Gathered.{gathered-more}
use Rattle.partners.proofs.gathered.Goals as goal

pub loop-u-preserved : goal.loop-u-preserved
loop-u-preserved g c f says v =
    let units = c.args.units.now in
    let i = c.loop-u.u-index in
    gathered-more (some (λ u. f u v)) (λ u. f u v) refl (λ x xs. refl) units i (has c.loop-u.all v) _ (c.loop-u.invariant f says v) _
    (c.union-all.ensures v ∙ ap (λ b. has c.loop-u.all v || b) (says (get_or units i 0) (on-at units i c.loop-u-test.true) c.of.result c.of.ensures v)) c.loop-u-test.true
