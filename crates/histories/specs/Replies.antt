-- What the plain book replies to requests.
use Rattle.std.specs.Prelude.{ℕ, Bool, List, [], ◌∷◌, Some, None, Option}
use Rattle.theory.specs.Lists.{in_labels, out_labels, in_holders, out_holders}
use Rattle.plain.specs.declared.BookFault.{BookFault}
use Rattle.plain.specs.Plain.{Plain, map_of, hears}
use Rattle.plain.specs.Placing.{best_told}
use Rattle.plain.specs.Reaching.{reach_told}
use Rattle.plain.specs.Saving.{saved_page}
use Rattle.plain.specs.Requests.{Request, Make, Load, Enrol, Drop, Pair, Unpair, Rank, Hear, BestPlace, InLabels, OutLabels, InHolders, OutHolders, Reach, Save, verdict, granted, step}
use Rattle.book.specs.Answers.{alters}

pub data Reply : Type 0 where
  -- the cause for which the request is refused
  Refused : (cause : BookFault) → Reply
  -- made, or loaded
  Done : Reply
  -- how many labels stand before or after the change, and not both
  Changed : (labels : ℕ) → Reply
  -- whether the one unit hears the other
  Heard : (yes : Bool) → Reply
  -- a rank, and the number of labels with the unit there
  Placed : (rank total : ℕ) → Reply
  -- the units of a list, or the bytes of a page
  Written : (bytes : List ℕ) → Reply
  -- the fewest pairings, or none
  Reached : (pairings : Option ℕ) → Reply

-- What a granted request is told.
abbrev pub told : Plain → Request → Reply
told p Make = Done
told p (Load page) = Done
told p (Enrol unit rank sources listeners) = Changed (alters p (granted p (Enrol unit rank sources listeners)))
told p (Drop unit) = Changed (alters p (granted p (Drop unit)))
told p (Pair source listener) = Changed (alters p (granted p (Pair source listener)))
told p (Unpair source listener) = Changed (alters p (granted p (Unpair source listener)))
told p (Rank unit rank) = Changed (alters p (granted p (Rank unit rank)))
told p (Hear source listener) = Heard (hears p listener source)
told p (BestPlace unit sources listeners) = Placed (best_told p unit sources listeners).0 (best_told p unit sources listeners).1
told p (InLabels unit room) = Written (in_labels (map_of p) p.order unit)
told p (OutLabels unit room) = Written (out_labels (map_of p) p.order unit)
told p (InHolders unit room) = Written (in_holders (map_of p) p.order unit)
told p (OutHolders unit room) = Written (out_holders (map_of p) p.order unit)
told p (Reach source listener sheet) = Reached (reach_told p source listener sheet)
told p (Save place room) = Written (saved_page p)

abbrev pub replied : Option BookFault → Reply → Reply
replied None reply = reply
replied (Some cause) reply = Refused cause

-- The reply to a request, and to one request after the other.
abbrev pub reply : ℕ → Plain → Request → Reply
reply capacity p r = replied (verdict capacity p r) (told p r)

abbrev pub replies : ℕ → Plain → List Request → List Reply
replies capacity p [] = []
replies capacity p (r ∷ rs) = reply capacity p r ∷ replies capacity (step capacity p r) rs
