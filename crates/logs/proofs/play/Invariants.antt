use Rattle.std.proofs.Common.{vec_items}
use Rattle.named.specs.Views.{named_of, Agreed}
use Rattle.logs.proofs.Playing.{SoFar}
use Rattle.logs.proofs.play.Given as goal

abbrev pub invariant-loop-line : goal.invariant-loop-line
invariant-loop-line g l =
    let m = g.S.Map.meaning in
    SoFar g.S.Store.room (named_of m l.initial.book) l.log (vec_items l.initial.out) l.line-iterator.text.now (named_of m l.book) (vec_items l.out) × Agreed m l.book
