-- Each pairing can be added, and is one less to be added.
use Rattle.std.proofs.Common.{◌≡◌, ◌<◌, ℕ, true, ◌≢◌, get_or, sym, refl, ap, ◌∙◌, subst, arith}
use Rattle.theory.specs.Maps.{with_pair}
use Rattle.grid.specs.Meaning.{matrix_map}
use Rattle.partners.specs.Joins.{joined}
use Rattle.places.proofs.Adding.{adding-more, adding-all, adding-able}
use Rattle.places.proofs.add_all.Goals as goal

pub loop-u-init : goal.loop-u-init
loop-u-init g c = let able = c.requires.able in ((able.0, able.1, able.2), λ k. refl, λ q told. refl {a = joined q c.args.units.now (matrix_map c.args.map.now)})

pub add_pair-requires : goal.add_pair-requires
add_pair-requires g c =
    let i = c.loop-u.u-index in
    let units = c.args.units.now in
    let now = matrix_map c.loop-u.map in
    let told = c.loop-u.invariant.0.1 (get_or units i 0) (omega (arith, c.type_inv.units i)) c.ends-a.result c.ends-a.ensures in
    subst (λ (q : ℕ × ℕ). (now.unit q.0 ≡ true) × ((now.unit q.1 ≡ true) × (q.0 ≢ q.1))) (sym told)
    (adding-able c.loop-u.invariant.0.0 units i (matrix_map c.args.map.now) now c.loop-u.invariant.0.2 c.loop-u.invariant.1 c.loop-u-test.true)

pub loop-u-preserved : goal.loop-u-preserved
loop-u-preserved g c =
    let i = c.loop-u.u-index in
    let units = c.args.units.now in
    let v = get_or units i 0 in
    let now = matrix_map c.loop-u.map in
    let new = matrix_map c.add_pair.new.self in
    let small : v < 256 = omega (arith, c.type_inv.units i) in (
      c.loop-u.invariant.0,
      λ k. ap (λ n. n.unit k) c.add_pair.ensures ∙ c.loop-u.invariant.1 k,
      λ q told. adding-more q units i (matrix_map c.args.map.now) now new (c.add_pair.ensures ∙ ap (λ e. with_pair e.0 e.1 now) (told v small _ c.ends-a.ensures)) c.loop-u-test.true (c.loop-u.invariant.2 q told),
    )

pub returns : goal.returns
returns g c q told = adding-all q c.args.units.now c.loop-u.u-index (matrix_map c.args.map.now) (matrix_map c.loop-u.map) c.loop-u-test.false (c.loop-u.invariant.2 q told)
