use Rattle.std.proofs.Common.{◌≡◌, ltb, rules}
use Rattle.std.proofs.lemmas.Iterator.{YieldsList-from_slice}
use Rattle.std.proofs.lemmas.Iterator.Search.{any_from_yields_List}
use Rattle.plain.specs.Lists.{some}
use Rattle.sheets.proofs.low_bytes.Goals as goal

pub returns : goal.returns
returns c =
    let any : c.any.result ≡ some (λ b. ltb 1 b) c.args.sheet.now =
    any_from_yields_List (λ b. ltb 1 b) _ _ _ c.any.ensures.ran (YieldsList-from_slice c.args.sheet.now cc) (λ x b q k. search rules) in
    search rules
