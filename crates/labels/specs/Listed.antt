-- The lists of a unit, and a list written into a lent buffer.
use Rattle.std.specs.Prelude.{◌≡◌, ℕ, Bool, cond, List, ◌++◌, length, drop, Ok, Err, Result, nat_le}
use Rattle.theory.specs.Maps.{Map}
use Rattle.theory.specs.Lists as theory
use Rattle.labels.specs.declared.lists.List.TheVariants as wanted
use Rattle.labels.specs.declared.lists.List.{List as Wanted}
use Rattle.labels.specs.declared.lists.ShortBuffer.{ShortBuffer}
use Rattle.labels.specs.declared.Labels.{Labels}
use Rattle.labels.specs.Holding.{holds}

-- Whether v is in the list of u, by the kept labels.
abbrev pub is_listed : Wanted → Labels → ℕ → ℕ → Bool
is_listed wanted.InLabels l u v = holds l.ins v u
is_listed wanted.OutLabels l u v = holds l.outs v u
is_listed wanted.InHolders l u v = holds l.ins u v
is_listed wanted.OutHolders l u v = holds l.outs u v

-- The list of a unit in the map, the highest first.
abbrev pub list_of : Wanted → Map → List ℕ → ℕ → List ℕ
list_of wanted.InLabels = theory.in_labels
list_of wanted.OutLabels = theory.out_labels
list_of wanted.InHolders = theory.in_holders
list_of wanted.OutHolders = theory.out_holders

abbrev pub fits : List ℕ → List ℕ → Bool
fits xs buffer = nat_le (length xs) (length buffer)

-- What is told: how many the list has, or that the buffer is too short.
abbrev pub told : List ℕ → List ℕ → Result ℕ ShortBuffer
told xs buffer = cond (fits xs buffer) (Ok (length xs)) (Err (record {}))

-- What the buffer is left with: the list from its start and then its own later bytes, or what it held where the list does not fit.
abbrev pub filled : List ℕ → List ℕ → List ℕ
filled xs buffer = cond (fits xs buffer) (xs ++ drop (length xs) buffer) buffer

-- Both, of a call that gave the answer and left the buffer.
pub record Listed (xs before : List ℕ) (answer : Result ℕ ShortBuffer) (after : List ℕ) : Type 0 where
  pub tells : answer ≡ told xs before
  pub leaves : after ≡ filled xs before
