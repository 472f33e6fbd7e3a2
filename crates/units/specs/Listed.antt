-- The members of a set as a list, the least first.
use Rattle.std.specs.Prelude.{ℕ, List, filter}
use Rattle.std.specs.List.{range_with_len}
use Rattle.units.specs.Has.{has}
use Rattle.units.specs.declared.UnitSet.{UnitSet}
use Rattle.units.specs.declared.members.Members.{Members}

unfoldable pub members : UnitSet → List ℕ
members s = filter (has s) (range_with_len 0 256)

-- What an iterator over a set still has to give.
abbrev pub left : Members → List ℕ
left m = members m.rest
