-- What is written and what is left to write are the whole; each turn leaves one listener less.
use Rattle.std.proofs.Common.{◌≡◌, ◌+◌, ◌*◌, ◌++◌, length, take}
use Rattle.units.specs.Has.{has}
use Rattle.plain.specs.Saving.{ascending, chain_bytes}
use Rattle.page_laws.specs.Ahead.{ahead}
use Rattle.page.proofs.writing.write_chain.Given as goal

abbrev pub invariant-loop-next : goal.invariant-loop-next
invariant-loop-next l =
    (take l.to l.page ++ chain_bytes l.number (ahead (has l.listeners) l.next) ≡ take l.from l.initial.page ++ chain_bytes l.at (ascending (has l.listeners)))
    × (l.number + length (ahead (has l.listeners) l.next) ≡ l.at + length (ascending (has l.listeners)))
    × (l.to + 3 * length (ahead (has l.listeners) l.next) ≡ l.from + 3 * length (ascending (has l.listeners)))

abbrev pub decreases-loop-next : goal.decreases-loop-next
decreases-loop-next l = length (ahead (has l.listeners) l.next)
