use Rattle.std.proofs.Common.{◌≡◌, ℕ, ◌&&◌, ltb}
use Rattle.units.specs.Has.{in_row}
use Rattle.grid.proofs.rows.transposed.Given as goal

-- done for the sets of the numbers below x
abbrev pub invariant-loop-x : goal.invariant-loop-x
invariant-loop-x l = (p q : ℕ) → in_row l.turned q p ≡ (ltb p l.x && in_row l.rows p q)
