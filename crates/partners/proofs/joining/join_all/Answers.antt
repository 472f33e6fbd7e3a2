-- No join is refused, and each leaves one unit less to be joined.
use Rattle.std.proofs.Common.{◌≡◌, ◌<◌, ℕ, get_or, refl, ap, ◌∙◌, arith}
use Rattle.theory.specs.Maps.{with_pair}
use Rattle.maps.proofs.Copies.{not-refused}
use Rattle.maps.specs.Changes.{join_cause}
use Rattle.partners.specs.Joins.{joined}
use Rattle.partners.proofs.Joins.{join-granted, join_more, done_more, done-end}
use Rattle.partners.proofs.joining.join_all.Goals as goal

pub loop-u-init : goal.loop-u-init
loop-u-init g c =
    let able = c.requires.able in
    ((able.0, able.1, record { sound = c.sound.ensures; able = able.3; differing = able.2 }), λ p told. refl {a = joined p c.args.units.now (g.S.Map.meaning c.args.store.now)})

pub returns-in_err-join : goal.returns-in_err-join
returns-in_err-join g c =
    let i = c.loop-u.u-index in
    let units = c.args.units.now in
    let v = get_or units i 0 in
    let told = c.loop-u.invariant.0.1 v (omega (arith, c.type_inv.units i)) c.ends-a.result c.ends-a.ensures in
    absurd (not-refused _ _
    (ap (λ q. join_cause (g.S.Map.meaning c.loop-u.store) g.S.Store.room q.0 q.1) told ∙ join-granted g.S.Store.room c.loop-u.invariant.0.0 units i _ c.loop-u.invariant.0.2 c.loop-u-test.true)
    c.in_err-join.ensures.0)

pub loop-u-preserved : goal.loop-u-preserved
loop-u-preserved g c =
    let i = c.loop-u.u-index in
    let units = c.args.units.now in
    let v = get_or units i 0 in
    let now = g.S.Map.meaning c.loop-u.store in
    let new = g.S.Map.meaning c.join.new.self in
    let p = c.loop-u.invariant.0.0 in
    let gives = c.loop-u.invariant.0.1 in
    let is : (q : ℕ → ℕ × ℕ) → c.ends-a.result ≡ q v → new ≡ with_pair (q v).0 (q v).1 now = λ q told. c.in_ok-join.ensures.1 ∙ ap (λ e. with_pair e.0 e.1 now) told in
    let small : v < 256 = omega (arith, c.type_inv.units i) in (
      (p, gives, join_more g.S.Store.room p units i now new (is p (gives v small _ c.ends-a.ensures)) c.loop-u-test.true c.loop-u.invariant.0.2),
      λ q told. done_more g.S.Store.room q units i now new _ (is q (told v small _ c.ends-a.ensures)) c.loop-u-test.true (c.loop-u.invariant.1 q told),
    )

pub returns : goal.returns
returns g c = record {
  granted = refl;
  left = λ q told. done-end g.S.Store.room q c.args.units.now c.loop-u.u-index (g.S.Map.meaning c.loop-u.store) _ c.loop-u-test.false (c.loop-u.invariant.1 q told);
}
