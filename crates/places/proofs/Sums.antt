-- The total of rows, as a sum over the order.
use Rattle.std.proofs.Common.{◌≡◌, ℕ, ◌+◌, List, [], ◌∷◌, sum_by, refl, ap, ◌∙◌}
use Rattle.std.proofs.lemmas.List.Sums.{sum_by-cons}
use Rattle.theory.specs.Counts.{count}
use Rattle.theory.specs.Lists.{sum}
use Rattle.theory.specs.Rows.{Rows}
use Rattle.theory.specs.Sizes.{rows_total}

summed : (f : ℕ → ℕ) (xs : List ℕ) → sum_by f xs ≡ sum xs f
unfolding sum
summed f [] = refl
summed f (x ∷ xs) = sum_by-cons f x xs ∙ ap (λ n. f x + n) (summed f xs)

pub total_summed : (rows : Rows) (order : List ℕ) → sum_by (λ u. count (rows.ins u) + count (rows.outs u)) order ≡ rows_total rows order
unfolding rows_total
total_summed rows order = summed (λ u. count (rows.ins u) + count (rows.outs u)) order
