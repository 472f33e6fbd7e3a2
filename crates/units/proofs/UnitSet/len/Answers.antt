use Rattle.std.proofs.Common.{◌^◌, ◌<◌, get_or, arith}
use Rattle.units.proofs.Words.{each-four}
use Rattle.units.proofs.Sizes.{size}
use Rattle.units.proofs.UnitSet.len.Goals as goal

pub returns : goal.returns
returns c =
    let xs = c.args.self.now.words in
    let all = size xs (each-four (λ i. get_or xs i 0 < 2 ^ 64) (omega arith) (omega arith) (omega arith) (omega arith)) in
    record { number = omega arith; most = omega arith }
