-- The saved page, read as a plain book.
-- Byte 0 is 1, byte 1 is n, bytes 2 and 3 are m, low byte first. Then come n unit records in rank order, of three bytes each: the number, and the
-- index of its first pairing record, low byte first, 0 for none. Then come m pairing records, of three bytes each: the listener, and the index of
-- the next record of the chain, low byte first, 0 at its end. Pairing records are numbered from 1.
use Rattle.std.specs.Prelude.{ℕ, zero, suc, ◌+◌, ◌-◌, ◌*◌, Bool, cond, not, ◌&&◌, ◌||◌, leb, List, [], ◌∷◌, ◌++◌, length, ◌==◌, nat_le, slice_index}
use Rattle.theory.specs.Maps.{listed}
use Rattle.theory.specs.Hearing.{is_heard}
use Rattle.plain.specs.Lists.{every, some, doubled, numbers, each}
use Rattle.plain.specs.Plain.{Plain, map_of}

-- Two bytes, the low one first.
abbrev pub word : List ℕ → ℕ → ℕ
word page at = slice_index page at + 256 * slice_index page (at + 1)

abbrev pub unit_count : List ℕ → ℕ
unit_count page = slice_index page 1

abbrev pub record_count : List ℕ → ℕ
record_count page = word page 2

-- Where a unit record, counted from 0, and a pairing record, counted from 1, begin.
abbrev pub unit_place : ℕ → ℕ
unit_place i = 4 + 3 * i

abbrev pub record_place : List ℕ → ℕ → ℕ
record_place page r = 4 + 3 * unit_count page + 3 * (r - 1)

abbrev pub unit_in : List ℕ → ℕ → ℕ
unit_in page i = slice_index page (unit_place i)

abbrev pub first_of : List ℕ → ℕ → ℕ
first_of page i = word page (unit_place i + 1)

abbrev pub listener_in : List ℕ → ℕ → ℕ
listener_in page r = slice_index page (record_place page r)

abbrev pub next_of : List ℕ → ℕ → ℕ
next_of page r = word page (record_place page r + 1)

-- The units in rank order.
unfoldable pub page_units : List ℕ → List ℕ
page_units page = each (unit_in page) (numbers 0 (unit_count page))

-- The records of the chain that begins with record r, at most so many; 0 ends it.
unfoldable pub chain : List ℕ → ℕ → ℕ → List ℕ
chain page zero r = []
chain page (suc most) r = cond (r == 0) [] (r ∷ chain page most (next_of page r))

-- The chain of a unit record. One record more than there are shows a chain that goes round.
unfoldable pub unit_chain : List ℕ → ℕ → List ℕ
unit_chain page i = chain page (suc (record_count page)) (first_of page i)

-- The records of all chains, one chain after the other.
unfoldable pub chains : List ℕ → List ℕ → List ℕ
chains page [] = []
chains page (i ∷ is) = unit_chain page i ++ chains page is

-- The page has the form above, and its records make chains: each record in one chain, once.
unfoldable pub lawful_page : List ℕ → Bool
lawful_page page =
    nat_le 4 (length page) && (length page == 4 + 3 * unit_count page + 3 * record_count page && (slice_index page 0 == 1 && (nat_le (record_count page) 8000
    && (every (λ u. not (u == 0)) (page_units page) && (not (doubled (page_units page))
    && (every (λ r. listed (listener_in page r) (page_units page)) (numbers 1 (record_count page))
    && (every (λ i. leb (first_of page i) (record_count page)) (numbers 0 (unit_count page))
    && (every (λ r. leb (next_of page r) (record_count page)) (numbers 1 (record_count page))
    && (every (λ r. listed r (chains page (numbers 0 (unit_count page)))) (numbers 1 (record_count page))
    && (not (doubled (chains page (numbers 0 (unit_count page))))
    && every (λ i. not (doubled (each (listener_in page) (unit_chain page i)))) (numbers 0 (unit_count page))))))))))))

-- The page begins with 1, says how many units and pairing records there are, 8,000 of these at most, and is just as long as these are.
abbrev pub has_form : List ℕ → Bool
has_form page =
    nat_le 4 (length page)
    && (length page == 4 + 3 * unit_count page + 3 * record_count page && (slice_index page 0 == 1 && nat_le (record_count page) 8000))

-- No unit is 0, and none stands twice.
abbrev pub units_right : List ℕ → Bool
units_right page = every (λ u. not (u == 0)) (page_units page) && not (doubled (page_units page))

-- Every listener is a unit of the page, and no index is above the number of records.
abbrev pub records_right : List ℕ → Bool
records_right page =
    every (λ r. listed (listener_in page r) (page_units page) && nat_le (next_of page r) (record_count page)) (numbers 1 (record_count page))

abbrev pub firsts_right : List ℕ → Bool
firsts_right page = every (λ i. leb (first_of page i) (record_count page)) (numbers 0 (unit_count page))

-- Every record is in some chain, and none is reached twice.
abbrev pub chains_right : List ℕ → Bool
chains_right page =
    every (λ r. listed r (chains page (numbers 0 (unit_count page)))) (numbers 1 (record_count page))
    && not (doubled (chains page (numbers 0 (unit_count page))))

-- No listener stands twice in one chain.
abbrev pub listeners_right : List ℕ → Bool
listeners_right page = every (λ i. not (doubled (each (listener_in page) (unit_chain page i)))) (numbers 0 (unit_count page))

-- The same, part by part.
unfoldable pub lawful_by_parts : List ℕ → Bool
lawful_by_parts page =
    has_form page && (units_right page && (records_right page && (firsts_right page && (chains_right page && listeners_right page))))

-- What a lawful page says: units in record order, each paired to the listeners in its chain.
unfoldable pub page_book : List ℕ → Plain
page_book page = record {
  order = page_units page;
  pair = λ a b. some (λ i. (unit_in page i == a) && listed b (each (listener_in page) (unit_chain page i))) (numbers 0 (unit_count page));
}

-- Some unit is paired to one that it hears: to itself, or round a ring.
unfoldable pub has_ring : Plain → Bool
has_ring p = some (λ a. some (λ b. p.pair a b && is_heard (map_of p) b a) p.order) p.order

-- Some unit is paired to itself, or to one that it hears.
unfoldable pub has_ring_or_loop : Plain → Bool
has_ring_or_loop p = some (λ a. some (λ b. p.pair a b && (a == b || is_heard (map_of p) b a)) p.order) p.order
