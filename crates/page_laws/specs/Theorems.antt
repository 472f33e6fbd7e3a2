-- What is proved of saved pages.
use Rattle.std.specs.Prelude.{◌≡◌, ◌≤◌, true, false}
use Rattle.theory.specs.Counts.{pair_count}
use Rattle.plain.specs.Plain.{Plain, map_of, Lawful}
use Rattle.plain.specs.Pages.{lawful_by_parts, page_book, has_ring_or_loop}
use Rattle.plain.specs.Saving.{saved_page}

-- The saved page of a lawful book with at most 8,000 pairings is lawful, says the same ranks and pairings, and has no ring.
pub record ReadsBack (p : Plain) : Type 0 where
  pub lawful : lawful_by_parts (saved_page p) ≡ true
  pub same : page_book (saved_page p) ≡ p
  pub ringless : has_ring_or_loop (page_book (saved_page p)) ≡ false

abbrev pub SavedReadsBack : Type 0
SavedReadsBack = (p : Plain) → Lawful p → pair_count (map_of p) ≤ 8000 → ReadsBack p
