use Rattle.std.proofs.Common.{refl}
use Rattle.book.proofs.Changing.{mended-at}
use Rattle.book.proofs.Book.mend_labels.Goals as goal

pub returns : goal.returns
returns g c = record { mended = mended-at _ _ _ _ _ _ _ _ _ c.copy_of-map.ensures c.as_slice.ensures c.mend.ensures; store = refl; ranks = refl }
