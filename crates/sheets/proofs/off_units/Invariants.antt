use Rattle.std.proofs.Common.{◌≡◌, ℕ, ◌&&◌, leb}
use Rattle.units.specs.Has.{has}
use Rattle.plain.specs.Reaching.{off}
use Rattle.sheets.proofs.off_units.Given as goal

-- the units up to i that are off
abbrev pub invariant-loop-i : goal.invariant-loop-i
invariant-loop-i l = (u : ℕ) → has l.all u ≡ (leb u l.i && off l.sheet u)
