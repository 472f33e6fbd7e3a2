use Rattle.std.proofs.Common.{rules, ℕ, ◌+◌, Option, Some, subst}
use Rattle.units.specs.Has.{has}
use Rattle.units.specs.Sets.{Least}
use Rattle.maps.proofs.Asked.{Gathered}
use Rattle.maps.proofs.gathering.gathered.Goals as goal

pub loop-u-preserved : goal.loop-u-preserved
loop-u-preserved g c f none each =
    let least : Least f (c.loop-u.c + 1) (Some c.in-Some.u) = subst (λ (o : Option ℕ). Least f (c.loop-u.c + 1) o) c.in-Some.is (each c.loop-u.c c.least_above.result c.least_above.ensures) in
    let before : Gathered (has c.loop-u.all) c.loop-u.c f = c.loop-u.invariant f none each in
    search rules

pub returns : goal.returns
returns g c f none each =
    let last : Least f (c.loop-u.c + 1) c.least_above.result = each c.loop-u.c c.least_above.result c.least_above.ensures in
    let before : Gathered (has c.loop-u.all) c.loop-u.c f = c.loop-u.invariant f none each in
    search rules
