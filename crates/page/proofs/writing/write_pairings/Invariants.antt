-- What is written and what is left to write are the whole; so are the records numbered so far and those left.
use Rattle.std.proofs.Common.{◌≡◌, ◌+◌, ◌*◌, ◌++◌, length, take, drop}
use Rattle.theory.specs.Lists.{sum}
use Rattle.plain.specs.Saving.{ascending, pairing_bytes}
use Rattle.page.proofs.writing.write_pairings.Given as goal

abbrev pub invariant-loop-u : goal.invariant-loop-u
invariant-loop-u g l =
    (take l.to l.page ++ pairing_bytes (g.M.Map.meaning l.map).pair l.at (drop l.u-index l.order) ≡ take l.from l.initial.page ++ pairing_bytes (g.M.Map.meaning l.map).pair 1 l.order)
    × (l.at + sum (drop l.u-index l.order) (λ u. length (ascending ((g.M.Map.meaning l.map).pair u))) ≡ 1 + sum l.order (λ u. length (ascending ((g.M.Map.meaning l.map).pair u))))
    × (l.to + 3 * sum (drop l.u-index l.order) (λ u. length (ascending ((g.M.Map.meaning l.map).pair u))) ≡ l.from + 3 * sum l.order (λ u. length (ascending ((g.M.Map.meaning l.map).pair u))))
