-- The map is the one that the page says, so a ring in it is one of the page.
use Rattle.std.proofs.Common.{◌≡◌, ℕ, Bool, List, sym, ap, ◌∙◌, subst}
use Rattle.units.specs.declared.UnitSet.{UnitSet}
use Rattle.units.specs.Has.{has, in_row}
use Rattle.theory.specs.Maps.{Sound, listed}
use Rattle.theory.proofs.Maps.{same_map}
use Rattle.grid.specs.Rows as grid
use Rattle.plain.specs.Lists.{some}
use Rattle.plain.specs.Plain.{map_of}
use Rattle.plain.specs.Pages.{page_units, page_book}
use Rattle.page_laws.proofs.Book.{page-order}
use Rattle.page_laws.proofs.Causes.{self-ring, sound-page, found-ring, found_none}
use Rattle.page.proofs.ringless.Goals as goal

by-slice : (row : ℕ → ℕ → Bool) (slice order : List ℕ) → slice ≡ order → some (λ a. row a a) slice ≡ some (λ a. row a a) order
by-slice row slice order e = ap (some (λ a. row a a)) e

pub returns-then-pairs_itself : goal.returns-then-pairs_itself
returns-then-pairs_itself c =
    self-ring c.args.ranked.page c.requires.parts c.args.ranked.ranks c.args.ranked.units c.lawful.ensures.high (in_row c.args.rows) c.requires.rows
    (sym (by-slice (in_row c.args.rows) _ _ c.as_slice.ensures) ∙ sym c.if-pairs_itself.ensures)

the-map : (page order slice : List ℕ) (set : UnitSet) (rows : List UnitSet) → order ≡ page_units page → slice ≡ order → ((k : ℕ) → has set k ≡ listed k slice) →
    ((a b : ℕ) → in_row rows a b ≡ (page_book page).pair a b) → grid.map_of set rows ≡ map_of (page_book page)
the-map page order slice set rows units lent has-it pairs = same_map _ _ (λ k. has-it k ∙ ap (listed k) (lent ∙ units ∙ sym (page-order page))) pairs

pub from_rows-map-requires : goal.from_rows-map-requires
from_rows-map-requires c =
    subst Sound (sym (the-map c.args.ranked.page _ _ c.set_of.result c.args.rows c.args.ranked.units c.as_slice-2.ensures c.set_of.ensures c.requires.rows)) (sound-page c.args.ranked.page c.requires.parts c.args.ranked.ranks c.args.ranked.units c.lawful.ensures.high (in_row c.args.rows) c.requires.rows (sym (by-slice (in_row c.args.rows) _ _ c.as_slice.ensures) ∙ sym c.if-pairs_itself.ensures))

pub returns-then-has_ring : goal.returns-then-has_ring
returns-then-has_ring c =
    let ring = c.if-has_ring.ensures in
    found-ring c.args.ranked.page c.requires.parts c.args.ranked.ranks c.args.ranked.units c.lawful.ensures.high (in_row c.args.rows) c.requires.rows
    _ (c.from_rows-map.ensures ∙ the-map c.args.ranked.page _ _ c.set_of.result c.args.rows c.args.ranked.units c.as_slice-2.ensures c.set_of.ensures c.requires.rows) ring.0 ring.1 ring.2 ring.3

pub returns : goal.returns
returns c =
    let is = c.from_rows-map.ensures ∙ the-map c.args.ranked.page _ _ c.set_of.result c.args.rows c.args.ranked.units c.as_slice-2.ensures c.set_of.ensures c.requires.rows in
    record {
      granted = found_none c.args.ranked.page c.requires.parts c.args.ranked.ranks c.args.ranked.units c.lawful.ensures.high (in_row c.args.rows) c.requires.rows
          (sym (by-slice (in_row c.args.rows) _ _ c.as_slice.ensures) ∙ sym c.if-pairs_itself.ensures) _ is c.if-has_ring.ensures;
      ranks = c.args.ranked.units;
      map = is;
    }
