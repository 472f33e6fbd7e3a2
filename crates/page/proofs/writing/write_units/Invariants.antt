-- What is written and what is left to write are the whole; so are the records numbered so far and those left.
use Rattle.std.proofs.Common.{◌≡◌, ◌+◌, ◌*◌, ◌++◌, length, take, drop}
use Rattle.theory.specs.Lists.{sum}
use Rattle.plain.specs.Saving.{ascending, unit_bytes}
use Rattle.page.proofs.writing.write_units.Given as goal

abbrev pub invariant-loop-i : goal.invariant-loop-i
invariant-loop-i g l =
    (take (4 + 3 * l.i) l.page ++ unit_bytes (g.M.Map.meaning l.map).pair l.at (drop l.i l.order) ≡ take 4 l.initial.page ++ unit_bytes (g.M.Map.meaning l.map).pair 1 l.order)
    × (l.at + sum (drop l.i l.order) (λ u. length (ascending ((g.M.Map.meaning l.map).pair u))) ≡ 1 + sum l.order (λ u. length (ascending ((g.M.Map.meaning l.map).pair u))))
