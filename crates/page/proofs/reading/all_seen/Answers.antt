use Rattle.std.proofs.Common.{rules, ◌≡◌, ℕ, Bool, take, drop, ap, ◌∙◌, arith}
use Rattle.std.proofs.lemmas.Iterator.{YieldsList-from_slice}
use Rattle.std.proofs.lemmas.Iterator.Search.{all_from_yields_List}
use Rattle.std.specs.Slice.Iter.{iter_rest}
use Rattle.plain.specs.Pages.{record_count}
use Rattle.page.proofs.Seen.{all_marked}
use Rattle.page.proofs.reading.all_seen.Goals as goal

pub returns : goal.returns
returns c =
    let seen = c.args.seen.now in
    let n : ℕ = record_count c.args.page.now in
    let most = c.records.ensures.most in
    let is = c.records.ensures.is in
    let long = c.told-seen in
    let asked : iter_rest c.iter.result ≡ take n (drop 1 seen) = c.iter.ensures.rest ∙ ap (λ (k : ℕ). take k (drop 1 seen)) (omega arith) in
    all_from_yields_List (λ (b : Bool). b) _ _ c.all.result c.all.ensures.ran (YieldsList-from_slice (take n (drop 1 seen)) asked) (λ x b q k. search rules)
    ∙ all_marked seen 1 n (omega arith)
