-- Every unit of the list passes the test of having a rank.
use Rattle.std.proofs.Common.{◌∙◌, rules}
use Rattle.std.proofs.lemmas.Iterator.{YieldsList-from_slice}
use Rattle.std.proofs.lemmas.Iterator.Search.{all_from_yields_List}
use Rattle.theory.specs.Maps.{listed}
use Rattle.partners.proofs.Found.{all_is}
use Rattle.partners.proofs.all_known.Goals as goal

pub returns : goal.returns
returns c =
    all_from_yields_List (λ u. listed u c.args.ranks.now) _ _ _ c.all.ensures.ran (YieldsList-from_slice c.args.units.now cc) (λ x b q k. search rules)
    ∙ all_is (λ u. listed u c.args.ranks.now) c.args.units.now
