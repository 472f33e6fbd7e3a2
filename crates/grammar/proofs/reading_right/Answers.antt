use Rattle.grammar.proofs.Theorem.{reading-right}
use Rattle.grammar.proofs.reading_right.Goals as goal

pub returns : goal.returns
returns c = reading-right
