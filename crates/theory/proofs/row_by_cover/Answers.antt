use Rattle.theory.proofs.Walks.{row-by-cover}
use Rattle.theory.proofs.row_by_cover.Goals as goal

pub returns : goal.returns
returns c = row-by-cover
