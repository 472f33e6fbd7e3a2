use Rattle.std.proofs.Common.{◌≡◌, ℕ, ◌-◌, ◌≤◌, refl, ap, ◌∙◌, arith}
use Rattle.theory.specs.Maps.{enrolled}
use Rattle.theory.specs.Hearing.{is_heard}
use Rattle.theory.specs.Ranks.{inserted}
use Rattle.theory.proofs.Enrols.{enrol_orders}
use Rattle.plain.specs.Lists.{some}
use Rattle.plain.specs.Requests.{Enrol, checks}
use Rattle.book.proofs.Agree.{keeps}
use Rattle.book.proofs.Answering.{no-cause}
use Rattle.book.proofs.Changing.{refused, not-refused, mended-at, asked-at}
use Rattle.book.proofs.Moving.{orders-at}
use Rattle.book.proofs.Enrolling.{new, absent-unit, rank-low, rank-place, sources-once, listeners-once, room, enrol-done, with-own}
use Rattle.book.proofs.Book.enrol.Goals as goal

pub returns-in_err-check_enrol : goal.returns-in_err-check_enrol
unfolding checks
returns-in_err-check_enrol g c = record {
  applied = refused g.S.Store.room (g.S.Map.meaning c.args.self.now.store) c.args.self.now.ranks (Enrol c.args.v c.args.k c.args.sources.now c.args.listeners.now) c.from_residual.result _ c.in_err-check_enrol.ensures c.from_residual.ensures.1;
  whole = c.requires;
  kept = λ cause e. refl;
}

pub attach-requires : goal.attach-requires
attach-requires g c =
    let m = g.S.Map.meaning c.args.self.now.store in
    let order = c.args.self.now.ranks in
    let k = keeps m order c.args.self.now.labels c.requires in
    let small : c.args.v ≤ 255 = omega (arith, c.ranges.v.fits) in
    let passed = no-cause _ (tt {0}) c.in_ok-check_enrol.ensures in
    record { new = new g.S.Store.room m order c.args.self.now.labels k c.args.v c.args.k small c.args.sources.now c.args.listeners.now passed; once = (sources-once g.S.Store.room m order c.args.self.now.labels k c.args.v c.args.k small c.args.sources.now c.args.listeners.now passed, listeners-once g.S.Store.room m order c.args.self.now.labels k c.args.v c.args.k small c.args.sources.now c.args.listeners.now passed); fits = room g.S.Store.room m order c.args.self.now.labels k c.args.v c.args.k small c.args.sources.now c.args.listeners.now passed }

pub returns-in_err-attach : goal.returns-in_err-attach
returns-in_err-attach g c = absurd (let z : ◌≡◌ {A = ℕ} 0 1 = cc c.in_err-attach.ensures.granted in omega arith)

pub overflow_sub-k : goal.overflow_sub-k
overflow_sub-k g c =
    let m = g.S.Map.meaning c.args.self.now.store in
    let order = c.args.self.now.ranks in
    let k = keeps m order c.args.self.now.labels c.requires in
    let small : c.args.v ≤ 255 = omega (arith, c.ranges.v.fits) in
    let passed = no-cause _ (tt {0}) c.in_ok-check_enrol.ensures in
    rank-low g.S.Store.room m order c.args.self.now.labels k c.args.v c.args.k small c.args.sources.now c.args.listeners.now passed

pub insert-requires-3 : goal.insert-requires-3
insert-requires-3 g c =
    let m = g.S.Map.meaning c.args.self.now.store in
    let order = c.args.self.now.ranks in
    let k = keeps m order c.args.self.now.labels c.requires in
    let small : c.args.v ≤ 255 = omega (arith, c.ranges.v.fits) in
    let passed = no-cause _ (tt {0}) c.in_ok-check_enrol.ensures in
    record { unit = (new g.S.Store.room m order c.args.self.now.labels k c.args.v c.args.k small c.args.sources.now c.args.listeners.now passed).low; absent = absent-unit g.S.Store.room m order c.args.self.now.labels k c.args.v c.args.k small c.args.sources.now c.args.listeners.now passed; within = rank-place g.S.Store.room m order c.args.self.now.labels k c.args.v c.args.k small c.args.sources.now c.args.listeners.now passed }

pub mend_labels-requires : goal.mend_labels-requires
mend_labels-requires g c =
    let m = g.S.Map.meaning c.args.self.now.store in
    let order = c.args.self.now.ranks in
    let k = keeps m order c.args.self.now.labels c.requires in
    let small : c.args.v ≤ 255 = omega (arith, c.ranges.v.fits) in
    let passed = no-cause _ (tt {0}) c.in_ok-check_enrol.ensures in
    orders-at _ _ _ _ c.attach.ensures.left c.insert-3.ensures (enrol_orders m order k.orders c.args.v c.args.sources.now c.args.listeners.now (new g.S.Store.room m order c.args.self.now.labels k c.args.v c.args.k small c.args.sources.now c.args.listeners.now passed).fresh (c.args.k - 1))

pub returns : goal.returns
returns g c =
    let m = g.S.Map.meaning c.args.self.now.store in
    let order = c.args.self.now.ranks in
    let k = keeps m order c.args.self.now.labels c.requires in
    let small : c.args.v ≤ 255 = omega (arith, c.ranges.v.fits) in
    let passed = no-cause _ (tt {0}) c.in_ok-check_enrol.ensures in
    let n = new g.S.Store.room m order c.args.self.now.labels k c.args.v c.args.k small c.args.sources.now c.args.listeners.now passed in
    let ups = c.heard-ups.ensures m (asked-at m order c.args.self.now.labels c.ranked.result k c.ranked.ensures.labels c.ranked.ensures.order) n.from in
    let downs = c.hearers-downs.ensures m (asked-at m order c.args.self.now.labels c.ranked-2.result k c.ranked-2.ensures.labels c.ranked-2.ensures.order) n.to in
    let done = enrol-done g.S.Store.room m order c.args.self.now.labels k c.args.v c.args.k small c.args.sources.now c.args.listeners.now passed c.insert.new.self c.insert-2.new.self
    (with-own c.args.v c.heard-ups.result _ (λ u. some (λ s. is_heard m u s) c.args.sources.now) c.insert.ensures ups)
    (with-own c.args.v c.hearers-downs.result _ (λ u. some (λ t. is_heard m t u) c.args.listeners.now) c.insert-2.ensures downs)
    c.mend_labels.new.self.labels c.mend_labels.result (g.S.Map.meaning c.mend_labels.new.self.store) c.mend_labels.new.self.ranks
    (mended-at _ (enrolled c.args.v c.args.sources.now c.args.listeners.now m) _ (inserted (c.args.k - 1) c.args.v order) _ _ _ _ _ c.attach.ensures.left c.insert-3.ensures c.mend_labels.ensures.mended)
    (ap g.S.Map.meaning c.mend_labels.ensures.store ∙ c.attach.ensures.left) (c.mend_labels.ensures.ranks ∙ c.insert-3.ensures) in
    record { applied = done.0; whole = done.1; kept = λ cause e. not-refused c.mend_labels.result cause e }
