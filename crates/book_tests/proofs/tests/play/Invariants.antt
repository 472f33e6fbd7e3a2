-- The book stays whole from step to step.
use Rattle.book.specs.Views.{Whole}
use Rattle.book_tests.proofs.tests.play.Given as goal

abbrev pub invariant-loop-step : goal.invariant-loop-step
invariant-loop-step g l = Whole g.S.Map.meaning l.book
