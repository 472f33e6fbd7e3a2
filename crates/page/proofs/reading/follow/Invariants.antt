-- What is seen so far is the front of the chain; each turn meets a new listener.
use Rattle.std.proofs.Common.{◌≡◌, ℕ, not, List, length}
use Rattle.units.specs.Has.{has}
use Rattle.theory.specs.Counts.{count}
use Rattle.page_laws.specs.Along.{Along}
use Rattle.page.specs.Indices.{IsIndex, index_of}
use Rattle.page.proofs.reading.follow.Given as goal

abbrev pub invariant-loop-next : goal.invariant-loop-next
invariant-loop-next l =
    (length l.seen ≡ 8001) × IsIndex (index_of l.next) l.next × ((list : List ℕ) × Along l.ranked.page l.i l.seen (has l.row) (index_of l.next) list)

abbrev pub decreases-loop-next : goal.decreases-loop-next
decreases-loop-next l = count (λ k. not (has l.row k))
