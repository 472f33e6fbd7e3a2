-- What a call answers, by the plain book.
use Rattle.std.specs.Prelude.{◌≡◌, ℕ, ◌+◌, ◌≤◌, Bool, true, false, List, ◌++◌, length, take, drop, Some, None, Ok, Err, Option, Result}
use Rattle.theory.specs.Maps.{Map}
use Rattle.theory.specs.Chains.{Heard}
use Rattle.theory.specs.Counts.{pair_count}
use Rattle.theory.specs.Lists.{labels_changed}
use Rattle.plain.specs.declared.BookFault.{BookFault}
use Rattle.plain.specs.declared.BookFault.TheVariants as fault
use Rattle.plain.specs.Plain.{Plain, map_of}
use Rattle.plain.specs.Saving.{saved_page}
use Rattle.plain.specs.Requests.{Request, Load, Save, verdict, granted, step}
use Rattle.plain.specs.Requests as request
use Rattle.labels.specs.declared.lists.List.{List as Wanted}
use Rattle.labels.specs.declared.lists.List.TheVariants as wanted
use Rattle.labels.specs.declared.lists.ShortBuffer.{ShortBuffer}

-- The answer that a request gets: its cause of refusal, or else what it tells.
abbrev pub answered : {A : Type 0} → Option BookFault → A → Result A BookFault
answered None told = Ok told
answered (Some cause) told = Err cause

-- How many labels stand in the one plain book or in the other, and not in both.
abbrev pub alters : Plain → Plain → ℕ
alters p q = labels_changed (map_of p) p.order (map_of q) q.order

-- A lent buffer after a list was written from its start, later bytes staying; a refusal leaves it as it was.
abbrev pub filled : Option BookFault → List ℕ → List ℕ → List ℕ
filled None list buffer = list ++ drop (length list) buffer
filled (Some cause) list buffer = buffer

-- The list was asked for by the request: its length is told and it stands in the buffer, or the cause is told and the buffer stays.
pub record Lists (capacity : ℕ) (p : Plain) (r : Request) (list before : List ℕ) (answer : Result ℕ BookFault) (after : List ℕ) : Type 0 where
  pub told : answer ≡ answered (verdict capacity p r) (length list)
  pub left : after ≡ filled (verdict capacity p r) list before

-- One of the lists of a unit, as a request.
abbrev pub list_request : Wanted → ℕ → ℕ → Request
list_request wanted.InLabels unit room = request.InLabels unit room
list_request wanted.OutLabels unit room = request.OutLabels unit room
list_request wanted.InHolders unit room = request.InHolders unit room
list_request wanted.OutHolders unit room = request.OutHolders unit room

-- The fault of the kept labels, as a book's.
abbrev pub fault_of : Result ℕ ShortBuffer → Result ℕ BookFault
fault_of (Ok n) = Ok n
fault_of (Err e) = Err fault.ShortBuffer

-- A request for a change: how many labels it alters, or the cause for which it is refused, is told; the book after it is what the request makes of it.
pub record Applied (capacity : ℕ) (p : Plain) (r : Request) (answer : Result ℕ BookFault) (after : Plain) : Type 0 where
  pub told : answer ≡ answered (verdict capacity p r) (alters p (granted p r))
  pub left : after ≡ step capacity p r

-- A yes is a chain of pairings from s to t, and a no that there is none.
pub record ByChains (m : Map) (s t : ℕ) (answer : Result Bool BookFault) : Type 0 where
  pub heard : answer ≡ Ok true → Heard m s t
  pub unheard : answer ≡ Ok false → Heard m s t → ⊥

-- A lent buffer after a page was written from a place on, the other bytes staying; a refusal leaves it as it was.
abbrev pub placed : Option BookFault → ℕ → List ℕ → List ℕ → List ℕ
placed None place page buffer = take place buffer ++ (page ++ drop (place + length page) buffer)
placed (Some cause) place page buffer = buffer

-- The page loads to the plain book p in place of any other, wherever there is room for its pairings.
abbrev pub LoadsTo : List ℕ → Plain → Type 0
LoadsTo page p = (room : ℕ) (other : Plain) → pair_count (map_of p) ≤ room → (verdict room other (Load page) ≡ None) × (granted other (Load page) ≡ p)

-- The page of the book was asked for: its length is told and it stands in the buffer, or the cause is told and the buffer stays.
pub record Saves (capacity : ℕ) (p : Plain) (place : ℕ) (before : List ℕ) (answer : Result ℕ BookFault) (after : List ℕ) : Type 0 where
  pub told : answer ≡ answered (verdict capacity p (Save place (length before))) (length (saved_page p))
  pub left : after ≡ placed (verdict capacity p (Save place (length before))) place (saved_page p) before
  pub back : LoadsTo (saved_page p) p
