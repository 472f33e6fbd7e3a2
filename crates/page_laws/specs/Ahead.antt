-- Members of a set that are still to be written.
use Rattle.std.specs.Prelude.{ℕ, suc, ◌+◌, ◌-◌, Bool, List, [], ◌∷◌, Some, None, Option}
use Rattle.theory.specs.Lists.{picked}
use Rattle.plain.specs.Lists.{numbers}

-- The member that comes next, and those above it up to 255.
unfoldable pub ahead : (ℕ → Bool) → Option ℕ → List ℕ
ahead f None = []
ahead f (Some l) = l ∷ picked f (numbers (suc l) (255 - l))

-- The number of the next record, where one follows the record `number`; else 0.
abbrev pub following_index : ℕ → Option ℕ → ℕ
following_index number None = 0
following_index number (Some l) = number + 1
