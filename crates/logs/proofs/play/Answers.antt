use Rattle.std.proofs.Common.{vec_items}
use Rattle.named.specs.Views.{named_of}
use Rattle.logs.proofs.Playing.{stopped}
use Rattle.logs.proofs.play.Goals as goal

pub returns-in_err-add_answer-clause-outcome : goal.returns-in_err-add_answer-clause-outcome
returns-in_err-add_answer-clause-outcome g c =
    stopped g.S.Store.room (named_of g.S.Map.meaning c.args.book.now) c.args.log.now (vec_items c.args.out.now) c.loop-line.line-iterator.text.now (named_of g.S.Map.meaning c.loop-line.book)
    (vec_items c.loop-line.out) c.in-Some.line.now c.next.new.self.text.now _ _ c.from_residual.result c.from_residual.ensures.0 c.loop-line.invariant.0 c.in-Some.ensures.steps
    c.in_err-add_answer.ensures.written c.in_err-add_answer.ensures.left
