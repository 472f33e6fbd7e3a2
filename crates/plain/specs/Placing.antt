-- Best place: the rank at which a new unit would leave the fewest labels.
use Rattle.std.specs.Prelude.{ℕ, zero, suc, ◌+◌, ◌<◌, ◌≤◌, cond, List, length, nat_le}
use Rattle.theory.specs.Ranks.{rank_in}
use Rattle.theory.specs.Lists.{total}
use Rattle.theory.specs.Sizes.{Number, Stands}
use Rattle.plain.specs.Plain.{Plain, map_of}
use Rattle.plain.specs.Requests.{Enrol, granted}

-- How many labels a plain book has.
abbrev pub labels_in : Plain → ℕ
labels_in p = total (map_of p) p.order

-- How many it would have with the unit enrolled at the rank.
abbrev pub total_at : Plain → ℕ → List ℕ → List ℕ → ℕ → ℕ
total_at p unit sources listeners rank = labels_in (granted p (Enrol unit rank sources listeners))

-- Of the rank `from` and so many more: the one with the least total, the first of equals; and that total.
unfoldable pub best_from : (ℕ → ℕ) → ℕ → ℕ → ℕ × ℕ
best_from total from zero = (from, total from)
best_from total from (suc more) =
    cond (nat_le (total from) (best_from total (suc from) more).1) (from, total from) (best_from total (suc from) more)

-- The best of the ranks from 1 to one more than there are units, and the total there.
unfoldable pub best_told : Plain → ℕ → List ℕ → List ℕ → ℕ × ℕ
best_told p unit sources listeners = best_from (total_at p unit sources listeners) 1 (length p.order)

-- The rank is one that a new unit can have, and with the unit there just so many labels stand; no rank gives fewer, and no higher one as few.
pub record Best (p : Plain) (unit : ℕ) (sources listeners : List ℕ) (rank total : ℕ) : Type 0 where
  pub low : 1 ≤ rank
  pub high : rank ≤ length p.order + 1
  pub number : Number (Stands (map_of (granted p (Enrol unit rank sources listeners))) (rank_in (granted p (Enrol unit rank sources listeners)).order)) total
  pub least : (k : ℕ) → 1 ≤ k → k ≤ length p.order + 1 → total ≤ total_at p unit sources listeners k
  pub first : (k : ℕ) → 1 ≤ k → k < rank → total < total_at p unit sources listeners k
