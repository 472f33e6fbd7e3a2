use Rattle.std.proofs.Common.{◌≡◌, ◌%◌, ◌++◌, map, take, drop}
use Rattle.sheets.proofs.wipe.Given as goal

abbrev pub invariant-loop-x : goal.invariant-loop-x
invariant-loop-x l = l.sheet ≡ map (λ x. x % 2) (take l.x-index l.initial.sheet) ++ drop l.x-index l.initial.sheet
