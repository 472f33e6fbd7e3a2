use Rattle.std.proofs.Common.{refl}
use Rattle.plain.specs.Requests.{Hear, BestPlace, granted}
use Rattle.book.specs.Views.{plain_of}
use Rattle.history.specs.declared.calls.Told.TheVariants as told
use Rattle.history.proofs.Turning.{asked-left, wrapped-turned}
use Rattle.history.proofs.turns.turn.Goals as goal

pub returns-in-Hear-clause-turned : goal.returns-in-Hear-clause-turned
unfolding granted
returns-in-Hear-clause-turned g c =
    let p = plain_of g.S.Map.meaning c.args.book.now in
    rw c.in-Hear.is (wrapped-turned g.S.Store.room p p (Hear c.in-Hear.s c.in-Hear.t) _ (λ b. told.Heard b) c.hear.result _ c.hear.ensures.told c.map-in-Hear.ensures.cases refl (asked-left g.S.Store.room p _ refl))

pub returns-in-BestPlace-clause-turned : goal.returns-in-BestPlace-clause-turned
unfolding granted
returns-in-BestPlace-clause-turned g c =
    let p = plain_of g.S.Map.meaning c.args.book.now in
    rw (c.in-BestPlace.is, ← c.as_slice-in-BestPlace.ensures.value, ← c.as_slice-in-BestPlace-2.ensures.value) (wrapped-turned g.S.Store.room p p (BestPlace c.in-BestPlace.unit c.as_slice-in-BestPlace.result.now c.as_slice-in-BestPlace-2.result.now) _ (λ t. told.Placed t) c.best_place.result _ c.best_place.ensures.told c.map-in-BestPlace.ensures.cases refl (asked-left g.S.Store.room p _ refl))
