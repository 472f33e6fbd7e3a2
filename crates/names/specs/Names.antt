-- The names of the numbers: which name each number has, if any.
use Rattle.std.specs.Prelude.{ℕ, zero, suc, Bool, false, cond, List, Some, None, Ok, Err, Option, Result, ◌==◌}
use Rattle.std.specs.Str.{bytes_eq}
use Rattle.names.specs.declared.fault.NameFault.{NameFault}
use Rattle.names.specs.declared.fault.NameFault.TheVariants as fault

abbrev pub Names : Type 0
Names = ℕ → Option (List ℕ)

-- No number has a name.
abbrev pub nameless : Names
nameless u = None

-- u has this name, or none, and every other number its own.
abbrev pub renamed : ℕ → Option (List ℕ) → Names → Names
renamed u name names k = cond (k == u) name (names k)

abbrev pub is_name : Option (List ℕ) → List ℕ → Bool
is_name None name = false
is_name (Some own) name = bytes_eq own name

-- The least number with the name, from a number on, of so many.
unfoldable pub named_from : Names → List ℕ → ℕ → ℕ → Option ℕ
named_from names name from zero = None
named_from names name from (suc more) = cond (is_name (names from) name) (Some from) (named_from names name (suc from) more)

-- The number with the name, if there is one.
unfoldable pub unit_named : Names → List ℕ → Option ℕ
unit_named names name = named_from names name 0 256

-- The number with the name that begins at a place of a line, or the fault that there is none.
abbrev pub found_at : ℕ → Option ℕ → Result ℕ NameFault
found_at place (Some u) = Ok u
found_at place None = Err (fault.Unknown place)

-- That the name is free, or the fault that it is not.
abbrev pub free_at : ℕ → Option ℕ → Result (Unit {0}) NameFault
free_at place (Some u) = Err (fault.Taken place)
free_at place None = Ok tt
