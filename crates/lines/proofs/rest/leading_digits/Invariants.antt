use Rattle.std.proofs.Common.{◌≡◌, ◌+◌, take, drop}
use Rattle.grammar.specs.Reading.{digit_run, value_after}
use Rattle.lines.proofs.rest.leading_digits.Given as goal

abbrev pub invariant-loop-n : goal.invariant-loop-n
invariant-loop-n l = (l.n + digit_run l.value (drop l.n l.text) ≡ digit_run 0 l.text) × (l.value ≡ value_after 0 (take l.n l.text))
