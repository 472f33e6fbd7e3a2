use Rattle.std.proofs.Common.{rules, ◌≡◌, ℕ, ◌/◌, ◌%◌, [], ◌∷◌, ◌++◌, get_or, take, ap, ◌∙◌}
use Rattle.page_laws.proofs.Writing.{record-written}
use Rattle.page.proofs.writing.write_record.Goals as goal

pub returns : goal.returns
returns c =
    let low : get_or c.to_le_bytes.result 0 0 ≡ c.args.index % 256 = search rules in
    let high : get_or c.to_le_bytes.result 1 0 ≡ c.args.index / 256 = search rules in
    let front = take c.args.at c.args.page.now in
    record-written c.args.page.now c.args.at c.args.number _ _ c.requires
    ∙ ap (λ (b : ℕ). front ++ c.args.number ∷ b ∷ get_or c.to_le_bytes.result 1 0 ∷ []) low ∙ ap (λ (b : ℕ). front ++ c.args.number ∷ c.args.index % 256 ∷ b ∷ []) high
