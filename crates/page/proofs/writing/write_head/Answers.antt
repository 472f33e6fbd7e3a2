use Rattle.std.proofs.Common.{ℕ, List, ◌++◌, ap, ◌∙◌, arith}
use Rattle.std.proofs.lemmas.List.{take_more_set}
use Rattle.plain.specs.Saving.{record_bytes}
use Rattle.page.proofs.writing.write_head.Goals as goal

pub returns : goal.returns
returns c =
    let page = c.args.page.now in
    c.write_record.ensures ∙ ap (λ (xs : List ℕ). xs ++ record_bytes c.args.units c.args.pairings) (take_more_set page 0 1 (omega arith))
