-- The book stays whole from drop to drop.
use Rattle.book.specs.Views.{Whole}
use Rattle.book_tests.proofs.tests.clear.Given as goal

abbrev pub invariant-loop-u : goal.invariant-loop-u
invariant-loop-u g l = Whole g.S.Map.meaning l.book
