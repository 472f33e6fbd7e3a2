-- The book stays whole from turn to turn.
use Rattle.book.specs.Views.{Whole}
use Rattle.book_tests.proofs.tests.comparison.many_turns.Given as goal

abbrev pub invariant-loop-time : goal.invariant-loop-time
invariant-loop-time g l = Whole g.S.Map.meaning l.book
