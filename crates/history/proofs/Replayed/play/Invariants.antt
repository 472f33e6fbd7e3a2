-- What was played and what is left to play are the whole.
use Rattle.std.proofs.Common.{map, take, vec_items}
use Rattle.book.specs.Views.{plain_of, Whole}
use Rattle.history.specs.Calls.{request_of}
use Rattle.history.specs.Played.{Played}
use Rattle.history.proofs.Replayed.play.Given as goal

abbrev pub invariant-loop-call : goal.invariant-loop-call
invariant-loop-call g l =
    Whole g.S.Map.meaning l.self.book
    × Played g.S.Store.room (map request_of (take l.call-index l.calls)) (plain_of g.S.Map.meaning l.initial.self.book) (plain_of g.S.Map.meaning l.self.book) (vec_items l.initial.self.answers) (vec_items l.self.answers)
