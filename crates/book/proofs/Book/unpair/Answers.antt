use Rattle.std.proofs.Common.{refl, ap, ◌∙◌}
use Rattle.theory.specs.Maps.{without_pair}
use Rattle.plain.specs.Requests.{Unpair, checks, unpair_checks}
use Rattle.book.specs.Views.{plain_by}
use Rattle.book.proofs.Agree.{keeps}
use Rattle.book.proofs.Answering.{no-cause}
use Rattle.book.proofs.Changing.{all-absent, refused, not-refused, mended-at}
use Rattle.book.proofs.Pairing.{both-known, unpair-done}
use Rattle.book.proofs.Book.unpair.Goals as goal

pub returns-in_err-check_unpair : goal.returns-in_err-check_unpair
unfolding checks
returns-in_err-check_unpair g c = record {
  applied = refused g.S.Store.room (g.S.Map.meaning c.args.self.now.store) c.args.self.now.ranks (Unpair c.args.a c.args.b) c.from_residual.result _ c.in_err-check_unpair.ensures c.from_residual.ensures.1;
  whole = c.requires;
  kept = λ cause e. refl;
}

pub touched-touched-requires : goal.touched-touched-requires
touched-touched-requires g c =
    let m = g.S.Map.meaning c.args.self.now.store in
    let order = c.args.self.now.ranks in
    let passed = no-cause _ (tt {0}) c.in_ok-check_unpair.ensures in
    record { whole = c.requires; stand = both-known order c.args.a c.args.b (all-absent (unpair_checks (plain_by m order) c.args.a c.args.b) passed).0 }

pub returns : goal.returns
returns g c =
    let m = g.S.Map.meaning c.args.self.now.store in
    let order = c.args.self.now.ranks in
    let k = keeps m order c.args.self.now.labels c.requires in
    let passed = no-cause _ (tt {0}) c.in_ok-check_unpair.ensures in
    let left = c.in_ok-part.ensures.1 in
    let done = unpair-done g.S.Store.room m order c.args.self.now.labels k c.args.a c.args.b passed c.touched-touched.result.ups c.touched-touched.result.downs c.touched-touched.ensures.ups c.touched-touched.ensures.downs
    c.mend_labels.new.self.labels c.mend_labels.result (g.S.Map.meaning c.mend_labels.new.self.store) c.mend_labels.new.self.ranks
    (mended-at _ (without_pair c.args.a c.args.b m) _ order _ _ _ _ _ left refl c.mend_labels.ensures.mended)
    (ap g.S.Map.meaning c.mend_labels.ensures.store ∙ left) c.mend_labels.ensures.ranks in
    record { applied = done.0; whole = done.1; kept = λ cause e. not-refused c.mend_labels.result cause e }
