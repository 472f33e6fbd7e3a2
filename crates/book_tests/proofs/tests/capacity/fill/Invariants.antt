-- The book stays whole from unit to unit.
use Rattle.book.specs.Views.{Whole}
use Rattle.book_tests.proofs.tests.capacity.fill.Given as goal

abbrev pub invariant-loop-v : goal.invariant-loop-v
invariant-loop-v g l = Whole g.S.Map.meaning l.book
