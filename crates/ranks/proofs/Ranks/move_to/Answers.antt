-- A unit that was taken out can be put in again.
use Rattle.std.proofs.Common.{length, ap, ◌∙◌, arith}
use Rattle.theory.specs.Maps.{listed}
use Rattle.theory.proofs.Distinct.{on-from-listed, length_removed}
use Rattle.ranks.proofs.Whole.{gone}
use Rattle.ranks.proofs.Ranks.move_to.Goals as goal

pub insert-requires : goal.insert-requires
insert-requires c =
    let u = c.args.u in
    let xs = c.args.self.now in
    let law = c.lawful.ensures in
    let most = length_removed xs u law.once in
    record {
      unit = law.low u (on-from-listed u xs c.requires.there);
      absent = ap (listed u) c.remove.ensures ∙ gone u xs;
      within = omega (arith, ap length c.remove.ensures, c.requires.within);
    }
