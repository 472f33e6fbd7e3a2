use Rattle.std.proofs.Common.{◌≡◌, ◌+◌, Bool, true, false, ◌||◌, eqb, get_or, drop, sym, refl, ap, ◌∙◌}
use Rattle.std.proofs.lemmas.List.{at_drop_more, at_drop_all}
use Rattle.units.specs.Has.{has}
use Rattle.theory.specs.Maps.{listed}
use Rattle.page.proofs.set_of.Goals as goal

-- a unit is in the set or further on
moved : (a b s : Bool) → ((a || s) || b) ≡ (s || (a || b))
moved true true true = refl
moved true true false = refl
moved true false true = refl
moved true false false = refl
moved false b s = refl

pub loop-u-preserved : goal.loop-u-preserved
loop-u-preserved c k =
    let order = c.args.order.now in
    let i = c.loop-u.u-index in
    ap (λ (b : Bool). b || listed k (drop (i + 1) order)) (c.insert.ensures k) ∙ moved (eqb k (get_or order i 0)) (listed k (drop (i + 1) order)) (has c.loop-u.set k)
    ∙ ap (λ (b : Bool). has c.loop-u.set k || b) (sym (at_drop_more (listed k) order i 0 c.loop-u-test.true)) ∙ c.loop-u.invariant k

none_left : (a b : Bool) → b ≡ false → (a || b) ≡ a
none_left true b e = refl
none_left false b e = e

pub returns : goal.returns
returns c k =
    sym (none_left (has c.loop-u.set k) _ (at_drop_all (listed k) c.args.order.now c.loop-u.u-index c.loop-u-test.false)) ∙ c.loop-u.invariant k
