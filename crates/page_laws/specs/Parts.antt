-- What is right of a lawful page, and of one that has been read in part.
use Rattle.std.specs.Prelude.{◌≡◌, ℕ, ◌<◌, ◌≤◌, Bool, true, false, ◌≢◌, List, slice_index_or}
use Rattle.theory.specs.Maps.{listed}
use Rattle.theory.specs.Chains.{On}
use Rattle.theory.specs.Ranks.{Once}
use Rattle.plain.specs.Lists.{numbers, each}
use Rattle.plain.specs.Pages.{has_form, unit_count, record_count, first_of, listener_in, next_of, page_units, unit_chain, chains}

-- A pairing record of the page whose listener is a unit of it, and whose next index is no greater than there are records.
pub record Right (page : List ℕ) (r : ℕ) : Type 0 where
  pub low : 1 ≤ r
  pub high : r ≤ record_count page
  pub next : next_of page r ≤ record_count page
  pub listener : On (listener_in page r) (page_units page)

-- The same as the test of lawful pages, fact by fact.
pub record Parts (page : List ℕ) : Type 0 where
  pub form : has_form page ≡ true
  pub units : (u : ℕ) → On u (page_units page) → u ≢ 0
  pub differ : Once (page_units page)
  pub records : (r : ℕ) → 1 ≤ r → r ≤ record_count page → Right page r
  pub firsts : (i : ℕ) → i < unit_count page → first_of page i ≤ record_count page
  pub reached : (r : ℕ) → 1 ≤ r → r ≤ record_count page → On r (chains page (numbers 0 (unit_count page)))
  pub once : Once (chains page (numbers 0 (unit_count page)))
  pub lists : (i : ℕ) → i < unit_count page → Once (each (listener_in page) (unit_chain page i))

-- The records of the list are marked as seen, and no others; they are right, and none stands twice.
pub record Marked (page : List ℕ) (seen : List Bool) (list : List ℕ) : Type 0 where
  pub marks : (r : ℕ) → r ≤ record_count page → slice_index_or seen r false ≡ listed r list
  pub right : (r : ℕ) → On r list → Right page r
  pub once : Once list

-- The chains of the first i units have been followed.
pub record Followed (page : List ℕ) (i : ℕ) (seen : List Bool) : Type 0 where
  pub marked : Marked page seen (chains page (numbers 0 i))
  pub firsts : (j : ℕ) → j < i → first_of page j ≤ record_count page
  pub lists : (j : ℕ) → j < i → Once (each (listener_in page) (unit_chain page j))
