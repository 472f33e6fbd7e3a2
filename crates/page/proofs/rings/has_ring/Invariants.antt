-- No unit so far is on a ring.
use Rattle.std.proofs.Common.{◌≡◌, ℕ, true, false}
use Rattle.theory.specs.Maps.{listed}
use Rattle.theory.specs.Hearing.{is_heard}
use Rattle.page.proofs.rings.has_ring.Given as goal

abbrev pub invariant-loop-b : goal.invariant-loop-b
invariant-loop-b g l = (a b : ℕ) → listed b l.yielded ≡ true → (g.M.Map.meaning l.m).pair a b ≡ true → is_heard (g.M.Map.meaning l.m) b a ≡ false
