use Rattle.std.proofs.Common.{[]}
use Rattle.theory.specs.Maps.{nothing}
use Rattle.book.proofs.Agree.{nothing-kept, agrees_at, plain_at}
use Rattle.book.proofs.Book.make.Goals as goal

pub returns : goal.returns
returns g c = record {
  empty = plain_at _ nothing _ [] c.clear.ensures c.empty.ensures;
  whole = agrees_at _ nothing _ [] _ c.clear.ensures c.empty.ensures (nothing-kept _ c.empty-2.ensures.ins c.empty-2.ensures.outs);
}
