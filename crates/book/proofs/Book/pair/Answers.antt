use Rattle.std.proofs.Common.{◌≡◌, ℕ, refl, ap, ◌∙◌, arith}
use Rattle.theory.specs.Maps.{with_pair}
use Rattle.plain.specs.Requests.{Pair, checks, pair_checks}
use Rattle.book.specs.Views.{plain_by}
use Rattle.book.proofs.Agree.{keeps}
use Rattle.book.proofs.Answering.{no-cause}
use Rattle.book.proofs.Changing.{all-absent, refused, not-refused, mended-at}
use Rattle.book.proofs.Pairing.{both-known, pair-done, join-granted}
use Rattle.book.proofs.Book.pair.Goals as goal

pub returns-in_err-check_pair : goal.returns-in_err-check_pair
unfolding checks
returns-in_err-check_pair g c = record {
  applied = refused g.S.Store.room (g.S.Map.meaning c.args.self.now.store) c.args.self.now.ranks (Pair c.args.a c.args.b) c.from_residual.result _ c.in_err-check_pair.ensures c.from_residual.ensures.1;
  whole = c.requires;
  kept = λ cause e. refl;
}

pub returns-in_err-join : goal.returns-in_err-join
returns-in_err-join g c =
    let k = keeps _ _ _ c.requires in
    let none = join-granted g.S.Store.room _ _ _ k c.args.a c.args.b (no-cause _ (tt {0}) c.in_ok-check_pair.ensures) in
    absurd (let z : ◌≡◌ {A = ℕ} 0 1 = cc (none, c.in_err-join.ensures.0) in omega arith)

pub touched-touched-requires : goal.touched-touched-requires
touched-touched-requires g c =
    let m = g.S.Map.meaning c.args.self.now.store in
    let order = c.args.self.now.ranks in
    let passed = no-cause _ (tt {0}) c.in_ok-check_pair.ensures in
    record { whole = c.requires; stand = both-known order c.args.a c.args.b (all-absent (pair_checks g.S.Store.room (plain_by m order) c.args.a c.args.b) passed).0 }

pub returns : goal.returns
returns g c =
    let m = g.S.Map.meaning c.args.self.now.store in
    let order = c.args.self.now.ranks in
    let k = keeps m order c.args.self.now.labels c.requires in
    let passed = no-cause _ (tt {0}) c.in_ok-check_pair.ensures in
    let left = c.in_ok-join.ensures.1 in
    let done = pair-done g.S.Store.room m order c.args.self.now.labels k c.args.a c.args.b passed c.touched-touched.result.ups c.touched-touched.result.downs c.touched-touched.ensures.ups c.touched-touched.ensures.downs
    c.mend_labels.new.self.labels c.mend_labels.result (g.S.Map.meaning c.mend_labels.new.self.store) c.mend_labels.new.self.ranks
    (mended-at _ (with_pair c.args.a c.args.b m) _ order _ _ _ _ _ left refl c.mend_labels.ensures.mended)
    (ap g.S.Map.meaning c.mend_labels.ensures.store ∙ left) c.mend_labels.ensures.ranks in
    record { applied = done.0; whole = done.1; kept = λ cause e. not-refused c.mend_labels.result cause e }
