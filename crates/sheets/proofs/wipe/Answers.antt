use Rattle.std.proofs.Common.{◌%◌, rules}
use Rattle.std.proofs.lemmas.List.{take_all, drop_all}
use Rattle.std.proofs.lemmas.List.Edits.{map_over_more}
use Rattle.sheets.proofs.wipe.Goals as goal

pub loop-x-preserved : goal.loop-x-preserved
loop-x-preserved c = search (rules, map_over_more (λ x. x % 2))

pub returns : goal.returns
returns c = search (rules, take_all, drop_all)
