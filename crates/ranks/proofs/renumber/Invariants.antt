-- The units up to j have their ranks, and numbers that are not in the order keep what they had.
use Rattle.std.proofs.Common.{◌≡◌, ℕ, length, get_or, take, None}
use Rattle.theory.specs.Chains.{On}
use Rattle.ranks.specs.Orders.{Numbered}
use Rattle.ranks.proofs.renumber.Given as goal

abbrev pub invariant-loop-j : goal.invariant-loop-j
invariant-loop-j l =
    (length l.place ≡ 256) × Numbered l.order l.place l.j ×
    ((u : ℕ) → (On u (take l.n l.order) → ⊥) → get_or l.place u None ≡ get_or l.initial.place u None)
