-- The number and the letter under which a store's fault is shown.
use Rattle.std.specs.Prelude.{ℕ}
use Rattle.maps.specs.declared.fault.StoreFault.{StoreFault}
use Rattle.maps.specs.declared.fault.StoreFault.TheVariants.{Zero, Standing, Unknown, SameUnit, Full, AlreadyPaired, NotPaired}

abbrev pub store_number : StoreFault → ℕ
store_number Zero = 1
store_number Standing = 2
store_number Unknown = 4
store_number SameUnit = 6
store_number Full = 7
store_number AlreadyPaired = 8
store_number NotPaired = 9

-- The letter of the layer that refuses: 'S' in ASCII.
abbrev pub store_letter : StoreFault → ℕ
store_letter fault = 83
