-- The requests that can be put to a book; when each is refused, and what it changes.
use Rattle.std.specs.Prelude.{ℕ, ◌+◌, ◌-◌, ◌*◌, Bool, cond, not, ◌||◌, ltb, List, [], ◌∷◌, ◌++◌, length, Some, None, Option, ◌==◌, nat_lt}
use Rattle.maps.specs.declared.fault.StoreFault.TheVariants.{Full}
use Rattle.theory.specs.Maps.{listed, with_pair, without_pair, without_unit, enrolled}
use Rattle.theory.specs.Counts.{pair_count}
use Rattle.theory.specs.Ranks.{inserted, removed, moved}
use Rattle.theory.specs.Lists.{in_labels, out_labels, in_holders, out_holders}
use Rattle.plain.specs.declared.BookFault.{BookFault}
use Rattle.plain.specs.declared.BookFault.TheVariants as fault
use Rattle.plain.specs.Plain.{Plain, map_of, empty, hears}
use Rattle.plain.specs.Lists.{some, doubled}
use Rattle.plain.specs.Pages.{lawful_page, page_book, has_ring, lawful_by_parts, has_ring_or_loop}

-- Ranks are counted from 1. `room` is the length of the buffer that is lent.
pub data Request : Type 0 where
  Make : Request
  Load : (page : List ℕ) → Request
  Enrol : (unit rank : ℕ) (sources listeners : List ℕ) → Request
  Drop : (unit : ℕ) → Request
  Pair : (source listener : ℕ) → Request
  Unpair : (source listener : ℕ) → Request
  Rank : (unit rank : ℕ) → Request
  Hear : (source listener : ℕ) → Request
  BestPlace : (unit : ℕ) (sources listeners : List ℕ) → Request
  InLabels : (unit room : ℕ) → Request
  OutLabels : (unit room : ℕ) → Request
  InHolders : (unit room : ℕ) → Request
  OutHolders : (unit room : ℕ) → Request
  Reach : (source listener : ℕ) (sheet : List ℕ) → Request
  Save : (place room : ℕ) → Request

-- A cause of refusal, and whether it is present.
abbrev pub Check : Type 0
Check = BookFault × Bool

abbrev pub stands : Plain → ℕ → Bool
stands p u = listed u p.order

abbrev pub unknown : Plain → List ℕ → Check
unknown p units = (fault.Unknown, some (λ u. not (stands p u)) units)

abbrev pub no_rank : ℕ → ℕ → Check
no_rank most rank = (fault.RankOutside, (rank == 0) || nat_lt most rank)

-- The store cannot take so many pairings.
abbrev pub too_many : ℕ → ℕ → Check
too_many capacity pairings = (fault.Store Full, nat_lt capacity pairings)

-- Some source hears some listener, so that a unit between them would be on a ring.
abbrev pub ring_between : Plain → List ℕ → List ℕ → Check
ring_between p sources listeners = (fault.Ring, some (λ s. some (λ t. hears p s t) listeners) sources)

-- What enrolling a unit asks of its number, and of its partners.
abbrev pub new_unit : Plain → ℕ → List Check
new_unit p unit = (fault.Zero, (unit == 0)) ∷ (fault.Standing, stands p unit) ∷ []

abbrev pub partners : ℕ → Plain → List ℕ → List ℕ → List Check
partners capacity p sources listeners =
    unknown p (sources ++ listeners) ∷ (fault.Doubled, doubled sources || doubled listeners) ∷ ring_between p sources listeners
    ∷ too_many capacity (pair_count (map_of p) + length sources + length listeners) ∷ []

abbrev pub short_list : Plain → List ℕ → ℕ → ℕ → List Check
short_list p list unit room = unknown p (unit ∷ []) ∷ (fault.ShortBuffer, nat_lt room (length list)) ∷ []

abbrev pub pair_checks : ℕ → Plain → ℕ → ℕ → List Check
pair_checks capacity p source listener =
    unknown p (source ∷ listener ∷ []) ∷ (fault.Ring, hears p source listener) ∷ (fault.AlreadyPaired, p.pair source listener)
    ∷ too_many capacity (pair_count (map_of p) + 1) ∷ []

abbrev pub unpair_checks : Plain → ℕ → ℕ → List Check
unpair_checks p source listener = unknown p (source ∷ listener ∷ []) ∷ (fault.NotPaired, not (p.pair source listener)) ∷ []

abbrev pub enrol_checks : ℕ → Plain → ℕ → ℕ → List ℕ → List ℕ → List Check
enrol_checks capacity p unit rank sources listeners = new_unit p unit ++ (no_rank (length p.order + 1) rank ∷ partners capacity p sources listeners)

abbrev pub rank_checks : Plain → ℕ → ℕ → List Check
rank_checks p unit rank = unknown p (unit ∷ []) ∷ no_rank (length p.order) rank ∷ []

-- What is asked of a page by itself, and of the room for what it says.
abbrev pub page_checks : List ℕ → List Check
page_checks page = (fault.UnlawfulPage, not (lawful_by_parts page)) ∷ (fault.Ring, has_ring_or_loop (page_book page)) ∷ []

abbrev pub load_checks : ℕ → List ℕ → List Check
load_checks capacity page = page_checks page ++ (too_many capacity (pair_count (map_of (page_book page))) ∷ [])

abbrev pub place_checks : ℕ → Plain → ℕ → List ℕ → List ℕ → List Check
place_checks capacity p unit sources listeners = new_unit p unit ++ partners capacity p sources listeners

abbrev pub reach_checks : Plain → ℕ → ℕ → List ℕ → List Check
reach_checks p source listener sheet =
    unknown p (source ∷ listener ∷ []) ∷ (fault.BadSheet, not (length sheet == 255) || some (λ b. ltb 1 b) sheet) ∷ []

-- The causes of each request, in the order in which they are looked for.
unfoldable pub checks : ℕ → Plain → Request → List Check
checks capacity p Make = []
checks capacity p (Load page) =
    (fault.UnlawfulPage, not (lawful_page page)) ∷ (fault.Ring, has_ring (page_book page)) ∷ too_many capacity (pair_count (map_of (page_book page))) ∷ []
checks capacity p (Enrol unit rank sources listeners) = enrol_checks capacity p unit rank sources listeners
checks capacity p (Drop unit) = unknown p (unit ∷ []) ∷ []
checks capacity p (Pair source listener) = pair_checks capacity p source listener
checks capacity p (Unpair source listener) = unpair_checks p source listener
checks capacity p (Rank unit rank) = rank_checks p unit rank
checks capacity p (Hear source listener) = unknown p (source ∷ listener ∷ []) ∷ []
checks capacity p (BestPlace unit sources listeners) = new_unit p unit ++ partners capacity p sources listeners
checks capacity p (InLabels unit room) = short_list p (in_labels (map_of p) p.order unit) unit room
checks capacity p (OutLabels unit room) = short_list p (out_labels (map_of p) p.order unit) unit room
checks capacity p (InHolders unit room) = short_list p (in_holders (map_of p) p.order unit) unit room
checks capacity p (OutHolders unit room) = short_list p (out_holders (map_of p) p.order unit) unit room
checks capacity p (Reach source listener sheet) =
    unknown p (source ∷ listener ∷ []) ∷ (fault.BadSheet, not (length sheet == 255) || some (λ b. ltb 1 b) sheet) ∷ []
checks capacity p (Save place room) = (fault.ShortBuffer, nat_lt room (place + (4 + 3 * length p.order + 3 * pair_count (map_of p)))) ∷ []

-- The first cause that is present, or none.
abbrev pub first_cause : List Check → Option BookFault
first_cause [] = None
first_cause (c ∷ cs) = cond c.1 (Some c.0) (first_cause cs)

abbrev pub verdict : ℕ → Plain → Request → Option BookFault
verdict capacity p r = first_cause (checks capacity p r)

-- What the request makes of the book where it is granted. Questions change nothing.
unfoldable pub granted : Plain → Request → Plain
granted p Make = empty
granted p (Load page) = page_book page
granted p (Enrol unit rank sources listeners) =
    record { order = inserted (rank - 1) unit p.order; pair = (enrolled unit sources listeners (map_of p)).pair }
granted p (Drop unit) = record { order = removed unit p.order; pair = (without_unit unit (map_of p)).pair }
granted p (Pair source listener) = record { order = p.order; pair = (with_pair source listener (map_of p)).pair }
granted p (Unpair source listener) = record { order = p.order; pair = (without_pair source listener (map_of p)).pair }
granted p (Rank unit rank) = record { order = moved (rank - 1) unit p.order; pair = p.pair }
granted p (Hear source listener) = p
granted p (BestPlace unit sources listeners) = p
granted p (InLabels unit room) = p
granted p (OutLabels unit room) = p
granted p (InHolders unit room) = p
granted p (OutHolders unit room) = p
granted p (Reach source listener sheet) = p
granted p (Save place room) = p

-- A refused request leaves the book as it was.
abbrev pub unless : Option BookFault → Plain → Plain → Plain
unless None old new = new
unless (Some cause) old new = old

abbrev pub step : ℕ → Plain → Request → Plain
step capacity p r = unless (verdict capacity p r) p (granted p r)

-- One request after the other.
abbrev pub run : ℕ → Plain → List Request → Plain
run capacity p [] = p
run capacity p (r ∷ rs) = run capacity (step capacity p r) rs
