use Rattle.std.proofs.Common.{ℕ, ◌^◌, ◌<◌, not, eqb, sym, subst, arith}
use Rattle.units.specs.Bit.{member, joined}
use Rattle.units.specs.Sets.{Inhabited}
use Rattle.units.proofs.Words.{inhabited}
use Rattle.units.proofs.UnitSet.is_empty.Goals as goal

pub returns : goal.returns
returns c =
    let xs = c.args.self.now.words in
    let e = c.joined_bits.ensures in
    let small : joined xs < 2 ^ 64 = omega arith in
    subst (λ (x : ℕ). Inhabited (not (eqb x 0)) (member xs)) (sym e) (inhabited xs small)
