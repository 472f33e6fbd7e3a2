use Rattle.std.proofs.Common.{[], ◌∷◌, refl, ap, ◌∙◌}
use Rattle.theory.specs.Maps.{without_unit}
use Rattle.theory.specs.Ranks.{removed}
use Rattle.theory.proofs.Enrols.{drop_orders}
use Rattle.plain.specs.Requests.{Drop, checks, unknown}
use Rattle.book.specs.Views.{plain_by}
use Rattle.book.proofs.Agree.{keeps}
use Rattle.book.proofs.Answering.{no-cause}
use Rattle.book.proofs.Changing.{all-absent, refused, not-refused, mended-at}
use Rattle.book.proofs.Moving.{one_known, drop-done, orders-at}
use Rattle.book.proofs.Book.drop_unit.Goals as goal

pub returns-in_err-check_known : goal.returns-in_err-check_known
unfolding checks
returns-in_err-check_known g c = record {
  applied = refused g.S.Store.room (g.S.Map.meaning c.args.self.now.store) c.args.self.now.ranks (Drop c.args.v) c.from_residual.result _ c.in_err-check_known.ensures c.from_residual.ensures.1;
  whole = c.requires;
  kept = λ cause e. refl;
}

pub touched-touched-requires : goal.touched-touched-requires
touched-touched-requires g c =
    let m = g.S.Map.meaning c.args.self.now.store in
    let order = c.args.self.now.ranks in
    let passed = no-cause _ (tt {0}) c.in_ok-check_known.ensures in
    let there = one_known order c.args.v (all-absent (unknown (plain_by m order) (c.args.v ∷ []) ∷ []) passed).0 in
    record { whole = c.requires; stand = (there, there) }

pub mend_labels-requires : goal.mend_labels-requires
mend_labels-requires g c =
    let m = g.S.Map.meaning c.args.self.now.store in
    let order = c.args.self.now.ranks in
    let k = keeps m order c.args.self.now.labels c.requires in
    orders-at _ _ _ _ c.in_ok-take.ensures.1 c.remove.ensures (drop_orders m order k.orders c.args.v)

pub returns : goal.returns
returns g c =
    let m = g.S.Map.meaning c.args.self.now.store in
    let order = c.args.self.now.ranks in
    let k = keeps m order c.args.self.now.labels c.requires in
    let passed = no-cause _ (tt {0}) c.in_ok-check_known.ensures in
    let done = drop-done m order c.args.self.now.labels k c.args.v g.S.Store.room passed c.touched-touched.result.ups c.touched-touched.result.downs c.touched-touched.ensures.ups c.touched-touched.ensures.downs
    c.mend_labels.new.self.labels c.mend_labels.result (g.S.Map.meaning c.mend_labels.new.self.store) c.mend_labels.new.self.ranks
    (mended-at _ (without_unit c.args.v m) _ (removed c.args.v order) _ _ _ _ _ c.in_ok-take.ensures.1 c.remove.ensures c.mend_labels.ensures.mended)
    (ap g.S.Map.meaning c.mend_labels.ensures.store ∙ c.in_ok-take.ensures.1) (c.mend_labels.ensures.ranks ∙ c.remove.ensures) in
    record { applied = done.0; whole = done.1; kept = λ cause e. not-refused c.mend_labels.result cause e }
