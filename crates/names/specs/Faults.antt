-- The number, the letter and the place under which a fault of a name is shown.
use Rattle.std.specs.Prelude.{ℕ}
use Rattle.names.specs.declared.fault.NameFault.{NameFault}
use Rattle.names.specs.declared.fault.NameFault.TheVariants.{Unknown, Taken}

abbrev pub name_number : NameFault → ℕ
name_number (Unknown place) = 13
name_number (Taken place) = 14

-- The letter of the layer that refuses: 'N' in ASCII.
abbrev pub name_letter : NameFault → ℕ
name_letter fault = 78

-- Where the name begins in its line, counted from 1.
abbrev pub name_place : NameFault → ℕ
name_place (Unknown place) = place
name_place (Taken place) = place
