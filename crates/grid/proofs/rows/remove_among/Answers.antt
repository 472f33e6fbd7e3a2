use Rattle.std.proofs.Common.{◌≡◌, not, ◌&&◌, eqb, ap, ◌∙◌}
use Rattle.units.specs.Has.{in_row}
use Rattle.units.specs.Listed.{left, members}
use Rattle.units.proofs.Listing.{all-listed}
use Rattle.grid.proofs.rows.remove_among.Goals as goal

pub returns : goal.returns
returns c p q =
    let all : left c.into_iter-x-iterator.result ≡ members c.args.among.now = ap left c.into_iter-x-iterator.ensures.into_iter_gives ∙ c.iter-x-items.ensures in
    c.loop-x.invariant.out p q
    ∙ ap (λ b. not (b && eqb q c.args.y) && in_row c.args.rows.now p q) (all-listed c.args.among.now _ all c.loop-x.yielded _ _ _ c.loop-x.yielded_by c.in-None.is c.next.ensures.steps p)
