use Rattle.page_laws.proofs.RoundTrip.{saved-reads-back}
use Rattle.page_laws.proofs.saved_reads_back.Goals as goal

pub returns : goal.returns
returns c = saved-reads-back
