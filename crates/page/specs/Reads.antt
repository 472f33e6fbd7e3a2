-- What reading a page tells.
use Rattle.std.specs.Prelude.{◌≡◌, ℕ, List, Some, None, Ok, Err, Result}
use Rattle.grid.specs.Meaning.{matrix_map}
use Rattle.plain.specs.declared.BookFault.{BookFault}
use Rattle.plain.specs.Plain.{map_of}
use Rattle.plain.specs.Pages.{page_units, page_book}
use Rattle.plain.specs.Requests.{first_cause, page_checks}
use Rattle.page.specs.declared.contents.Contents.{Contents}

-- The page is lawful and has no ring; the ranks and the map are those that it says.
pub record Says (page : List ℕ) (c : Contents) : Type 0 where
  pub granted : first_cause (page_checks page) ≡ None
  pub ranks : c.ranks ≡ page_units page
  pub map : matrix_map c.map ≡ map_of (page_book page)

-- What the page says, or the first cause for which it is refused.
abbrev pub Reads : List ℕ → Result Contents BookFault → Type 0
Reads page (Ok c) = Says page c
Reads page (Err cause) = first_cause (page_checks page) ≡ Some cause
