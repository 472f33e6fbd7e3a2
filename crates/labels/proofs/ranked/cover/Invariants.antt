-- What is found so far and what the rest of the units cover is what all of them cover.
use Rattle.std.proofs.Common.{◌≡◌, ℕ, ◌||◌, drop}
use Rattle.units.specs.Has.{has}
use Rattle.labels.specs.Holding.{holds}
use Rattle.labels.specs.Asked.{covered}
use Rattle.labels.proofs.ranked.cover.Given as goal

abbrev pub invariant-loop-w : goal.invariant-loop-w
invariant-loop-w l = (y : ℕ) → (has l.all y || covered (holds l.ins) (holds l.outs) (drop l.w-index l.units) l.u y) ≡ covered (holds l.ins) (holds l.outs) l.units l.u y
