use Rattle.std.proofs.Common.{ap, ◌∙◌, rules}
use Rattle.units.specs.declared.UnitSet.{UnitSet}
use Rattle.units.specs.Has.{has}
use Rattle.plain.specs.Reaching.{off}
use Rattle.sheets.proofs.Wipes.{wiped-clean, clean-unmarked, fewest-at}
use Rattle.sheets.proofs.reach.Goals as goal

pub fewest_pairings_marking-requires : goal.fewest_pairings_marking-requires
fewest_pairings_marking-requires g c = clean-unmarked c.args.sheet.now c.requires.clean

pub returns : goal.returns
returns g c = record {
  fewest =
      fewest-at (has c.without-open.result.marks.set) (off c.args.sheet.now) (g.M.Map.meaning c.without-open.result.below.now) (g.M.Map.meaning c.args.m.now) c.args.s c.args.t c.fewest_pairings_marking.result
      (λ k. ap (λ (set : UnitSet). has set k) c.without-open.ensures.marks ∙ c.off_units.ensures k) (ap (λ b. g.M.Map.meaning b.now) c.without-open.ensures.below) c.fewest_pairings_marking.ensures.fewest;
  few = c.fewest_pairings_marking.ensures.few;
  same =
      let names = ap (λ p. p.0) c.fewest_pairings_marking.ensures.below in
      let under = ap (λ p. p.1) c.fewest_pairings_marking.ensures.below in
      let clean = wiped-clean c.args.sheet.now c.requires.clean in
      search rules;
}
