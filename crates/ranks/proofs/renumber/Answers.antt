-- Each turn numbers one unit, and no other number has its place.
use Rattle.std.proofs.Common.{◌≡◌, ℕ, ◌+◌, get_or, take, set, Some, None, sym, ◌∙◌, subst, arith, below_more}
use Rattle.std.proofs.lemmas.List.{length-set, get_or-set_same, get_or-set_other}
use Rattle.theory.specs.Chains.{On}
use Rattle.ranks.proofs.Shifts.{apart, on-order}
use Rattle.ranks.proofs.renumber.Goals as goal

pub loop-j-preserved : goal.loop-j-preserved
loop-j-preserved c =
    let j = c.loop-j.j in
    let order = c.args.order.now in
    let place = c.loop-j.place in
    let n = c.args.n in
    let u = get_or order j 0 in
    let inv = c.loop-j.invariant in (
      length-set place u (Some (j + 1)) ∙ inv.0,
      below_more (λ i. get_or (set place u (Some (j + 1))) (get_or order i 0) None ≡ Some (i + 1)) j
          (λ i h. get_or-set_other place u (get_or order i 0) (Some (j + 1)) None (λ e. omega (arith, apart order n i j (omega arith) c.requires.once (omega arith) (omega arith) e)) ∙ inv.1 i h)
          (get_or-set_same place u (Some (j + 1)) None (omega arith)),
      (λ w far. get_or-set_other place u w (Some (j + 1)) None (λ e. far (subst (λ (z : ℕ). On z (take n order)) (sym e) (on-order order n j (omega arith) (omega arith)))) ∙ inv.2 w far),
    )
