-- Each turn sets the place one rank up beside the best of those below it.
use Rattle.std.proofs.Common.{◌+◌, ◌-◌, refl, ap, ◌∙◌, arith}
use Rattle.places.specs.Trials.{trial, told_of, smaller}
use Rattle.places.proofs.Trying.{best-last, best-more}
use Rattle.places.proofs.best_of.Goals as goal

pub loop-k-init : goal.loop-k-init
loop-k-init g c =
    let f = trial (g.M.Map.meaning c.args.m.now) c.args.v c.args.ranks.now in
    c.place_at-best.ensures ∙ best-last f c.len-n.result (f (c.len-n.result + 1)) refl

pub loop-k-preserved : goal.loop-k-preserved
loop-k-preserved g c =
    let f = trial (g.M.Map.meaning c.args.m.now) c.args.v c.args.ranks.now in
    let k = c.loop-k.k in
    c.better-best.ensures ∙ ap (λ p. smaller p (told_of c.loop-k.best)) c.place_at.ensures
    ∙ best-more f c.len-n.result k (f (k - 1 + 1)) (told_of c.loop-k.best) (omega arith) (omega arith) refl c.loop-k.invariant
