-- Sets that tell a sound map make a matrix.
use Rattle.std.proofs.Common.{refl}
use Rattle.grid.specs.Rows.{map_of}
use Rattle.grid.proofs.Kept.{kept}
use Rattle.grid.proofs.matrix.Matrix.from_rows.Goals as goal

pub invariant_of-result : goal.invariant_of-result
invariant_of-result c =
    let k = kept (map_of c.args.units c.args.listeners) c.args.units c.args.listeners c.transposed-sources.result c.requires (λ k. refl) (λ x y. refl) c.transposed-sources.ensures in
    record { zero = k.zero; from = k.from; to = k.to; apart = k.apart; turned = k.turned }
