-- When a store refuses a change, and what a change leaves.
use Rattle.std.specs.Prelude.{◌≡◌, ℕ, ◌+◌, cond, ◌&&◌, Some, None, Ok, Err, Option, Result, ◌==◌, nat_le}
use Rattle.theory.specs.Maps.{Map, with_unit, without_unit, with_pair, without_pair}
use Rattle.theory.specs.Counts.{pair_count}
use Rattle.maps.specs.declared.fault.StoreFault.{StoreFault}
use Rattle.maps.specs.declared.fault.StoreFault.TheVariants.{Zero, Standing, Unknown, SameUnit, Full, AlreadyPaired, NotPaired}

-- ---- The first cause that is present, in the order in which they are looked for; or None.

abbrev pub put_cause : Map → ℕ → Option StoreFault
put_cause m u = cond (u == 0) (Some Zero) (cond (m.unit u) (Some Standing) None)

abbrev pub take_cause : Map → ℕ → Option StoreFault
take_cause m u = cond (m.unit u) None (Some Unknown)

abbrev pub join_cause : Map → ℕ → ℕ → ℕ → Option StoreFault
join_cause m room a b =
    cond (m.unit a && m.unit b)
    (cond (a == b) (Some SameUnit) (cond (m.pair a b) (Some AlreadyPaired) (cond (pair_count m == room) (Some Full) None)))
    (Some Unknown)

abbrev pub part_cause : Map → ℕ → ℕ → Option StoreFault
part_cause m a b = cond (m.unit a && m.unit b) (cond (m.pair a b) None (Some NotPaired)) (Some Unknown)

-- A copy of the map needs room for all its pairings.
abbrev pub copy_cause : Map → ℕ → Option StoreFault
copy_cause m room = cond (nat_le (pair_count m) room) None (Some Full)

-- ---- The answer to a change, and the map that it leaves.

abbrev pub Answer : Type 0
Answer = Result (Unit {0}) StoreFault

-- Refused for the cause, if there is one, and the map is left as it was; else granted, and the map is the new one.
abbrev pub Done : Option StoreFault → Map → Map → Answer → Map → Type 0
Done cause old new (Ok v) left = (cause ≡ None) × (left ≡ new)
Done cause old new (Err fault) left = (cause ≡ Some fault) × (left ≡ old)

abbrev pub Put : Map → ℕ → Answer → Map → Type 0
Put m u r left = Done (put_cause m u) m (with_unit u m) r left

abbrev pub Taken : Map → ℕ → Answer → Map → Type 0
Taken m u r left = Done (take_cause m u) m (without_unit u m) r left

abbrev pub Joined : Map → ℕ → ℕ → ℕ → Answer → Map → Type 0
Joined m room a b r left = Done (join_cause m room a b) m (with_pair a b m) r left

abbrev pub Parted : Map → ℕ → ℕ → Answer → Map → Type 0
Parted m a b r left = Done (part_cause m a b) m (without_pair a b m) r left

-- The map `from` is copied over what the store holds.
abbrev pub Copied : Map → Map → ℕ → Answer → Map → Type 0
Copied from m room r left = Done (copy_cause from room) m from r left

-- Whether `more` pairings fit besides those that are held.
abbrev pub room_for : ℕ → ℕ → ℕ → Answer
room_for held more room = cond (nat_le (held + more) room) (Ok tt) (Err Full)
