use Rattle.std.proofs.Common.{◌≡◌, ℕ, ◌&&◌, ltb, length}
use Rattle.units.specs.Has.{in_row}
use Rattle.grid.proofs.rows.listener_rows.Given as goal

abbrev pub invariant-loop-a : goal.invariant-loop-a
invariant-loop-a g l = (length l.row-items ≡ 256) × ((x y : ℕ) → in_row l.row-items x y ≡ (ltb x l.a && (g.M.Map.meaning l.m).pair x y))
