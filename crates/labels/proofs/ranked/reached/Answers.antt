-- What is covered for the unit, the unit and its row are all that hears it.
use Rattle.std.proofs.Common.{◌≡◌, ℕ, Bool, ◌||◌, eqb, ◌∙◌, ap₂}
use Rattle.units.specs.Has.{has}
use Rattle.labels.specs.Holding.{holds}
use Rattle.labels.specs.Asked.{covered}
use Rattle.labels.proofs.Reached.{all-hearers, all-heard}
use Rattle.labels.proofs.ranked.reached.Goals as goal

both : (r a b x y : Bool) → r ≡ (a || b) → a ≡ x → b ≡ y → r ≡ (x || y)
both r a b x y e p q = e ∙ ap₂ (λ v w. v || w) p q

pub returns : goal.returns
returns c =
    let ins = c.args.ins.now in
    let outs = c.args.outs.now in
    let order = c.args.order.now in
    let u = c.args.u in
    let all : (v : ℕ) → has c.union.result v ≡ (covered (holds ins) (holds outs) order u v || (eqb v u || holds ins u v)) = λ v. both _ _ _ (covered (holds ins) (holds outs) order u v) (eqb v u || holds ins u v) (c.union.ensures v) (c.cover.ensures v) (c.with_own.ensures v) in
    record {
      own = λ m kept unit v. all v ∙ all-hearers m order (record { ins = ins; outs = outs }) kept u v unit;
      swapped = λ m kept unit v. all v ∙ all-heard m order (record { ins = outs; outs = ins }) kept u v unit;
    }
