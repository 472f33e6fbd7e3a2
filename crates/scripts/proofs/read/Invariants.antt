-- The lines so far and those still to come are as many as the text has.
use Rattle.std.proofs.Common.{◌≡◌, ℕ, ◌+◌, ◌≤◌, List, length}
use Rattle.std.specs.Iterator.{AlwaysYields}
use Rattle.std.specs.Str.Iter.{lines_rest, lines_steps}
use Rattle.std.specs.Str.Lines.{lines}
use Rattle.scripts.proofs.read.Given as goal

abbrev pub invariant-loop-i : goal.invariant-loop-i
invariant-loop-i l =
    (left : List (List ℕ))
    × AlwaysYields lines_steps (λ x. x.now) l.i-iterator.iter left
    × (length l.yielded + length left ≡ length (lines l.text))
    × (l.i-iterator.count ≡ length l.yielded)
    × (length (lines_rest l.i-iterator.iter) ≤ length l.text)
