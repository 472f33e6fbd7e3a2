-- What a line asks of a named book, once its names are known; and where its fields begin.
use Rattle.std.specs.Prelude.{ℕ, zero, suc, ◌+◌, List, [], ◌∷◌, length, Some, None, Ok, Err, Result}
use Rattle.grammar.specs.Grammar.{Said, Field, text, fields}
use Rattle.grammar.specs.Grammar as said
use Rattle.names.specs.declared.fault.NameFault.{NameFault}
use Rattle.names.specs.Names.{Names, renamed, unit_named, found_at, free_at}
use Rattle.plain.specs.Requests.{Request}
use Rattle.plain.specs.Requests as request

-- A line as it is said, with the numbers of its units in place of known names.
pub data Asked : Type 0 where
  Enrol : (unit : ℕ) (name : List ℕ) (rank : ℕ) → Asked
  Drop : (unit : ℕ) → Asked
  Pair : (source listener : ℕ) → Asked
  Unpair : (source listener : ℕ) → Asked
  Rank : (unit rank : ℕ) → Asked
  Hear : (source listener : ℕ) → Asked

-- Where a field of a line begins, counted from 1; the first has the index 0. The letter and a space stand before the first, and a space before each.
abbrev pub begins : List Field → ℕ → ℕ
begins [] i = 3
begins (f ∷ fs) zero = 3
begins (f ∷ fs) (suc i) = suc (length (text f)) + begins fs i

abbrev pub place : Said → ℕ → ℕ
place s i = begins (fields s) i

-- The next step from what was found, or the first fault.
abbrev pub next : {A B : Type 0} → Result A NameFault → (A → Result B NameFault) → Result B NameFault
next (Ok x) go = go x
next (Err fault) go = Err fault

-- What a line with one known name, and with two, asks. Earlier names come first.
abbrev pub of_one : Names → (ℕ → Asked) → ℕ → List ℕ → Result Asked NameFault
of_one names asks at name = next (found_at at (unit_named names name)) (λ u. Ok (asks u))

abbrev pub of_two : Names → (ℕ → ℕ → Asked) → (at then : ℕ) → (source listener : List ℕ) → Result Asked NameFault
of_two names asks at then source listener =
    next (found_at at (unit_named names source)) (λ a. next (found_at then (unit_named names listener)) (λ b. Ok (asks a b)))

-- What the line asks; or the first name that is unknown, or that is taken where a new one is to be given.
unfoldable pub asked : Names → Said → Result Asked NameFault
asked names (said.Enrol number name rank) = next (free_at (place (said.Enrol number name rank) 1) (unit_named names name)) (λ _. Ok (Enrol number name rank))
asked names (said.Drop name) = of_one names Drop (place (said.Drop name) 0) name
asked names (said.Pair s t) = of_two names Pair (place (said.Pair s t) 0) (place (said.Pair s t) 1) s t
asked names (said.Unpair s t) = of_two names Unpair (place (said.Unpair s t) 0) (place (said.Unpair s t) 1) s t
asked names (said.Rank name rank) = of_one names (λ u. Rank u rank) (place (said.Rank name rank) 0) name
asked names (said.Hear s t) = of_two names Hear (place (said.Hear s t) 0) (place (said.Hear s t) 1) s t

-- The request that it is to the book. A unit is enrolled with no partners.
abbrev pub request_of : Asked → Request
request_of (Enrol unit name rank) = request.Enrol unit rank [] []
request_of (Drop unit) = request.Drop unit
request_of (Pair source listener) = request.Pair source listener
request_of (Unpair source listener) = request.Unpair source listener
request_of (Rank unit rank) = request.Rank unit rank
request_of (Hear source listener) = request.Hear source listener

-- What it makes of the names where it is granted: the one card of a unit that is enrolled or dropped is written anew.
abbrev pub names_after : Asked → Names → Names
names_after (Enrol unit name rank) names = renamed unit (Some name) names
names_after (Drop unit) names = renamed unit None names
names_after (Pair source listener) names = names
names_after (Unpair source listener) names = names
names_after (Rank unit rank) names = names
names_after (Hear source listener) names = names
