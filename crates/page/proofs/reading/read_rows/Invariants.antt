-- The chains of the first units are followed, and the sets hold their pairings.
use Rattle.std.proofs.Common.{◌≡◌, ℕ}
use Rattle.units.specs.Has.{in_row}
use Rattle.page_laws.specs.Parts.{Followed}
use Rattle.page_laws.specs.Pairs.{paired_by}
use Rattle.page.proofs.reading.read_rows.Given as goal

abbrev pub invariant-loop-i : goal.invariant-loop-i
invariant-loop-i l = Followed l.ranked.page l.i l.seen × ((a b : ℕ) → in_row l.rows a b ≡ paired_by l.ranked.page l.i a b)
