use Rattle.std.proofs.Common.{rules, ◌≡◌, ℕ, List, refl, subst}
use Rattle.plain.specs.Requests.{Reach, granted}
use Rattle.book.specs.Views.{plain_of}
use Rattle.history.specs.declared.calls.Told.TheVariants as told
use Rattle.history.specs.Calls.{Turned}
use Rattle.history.proofs.Turning.{asked-left, wrapped-turned}
use Rattle.history.proofs.turns.reach.Goals as goal

pub returns : goal.returns
unfolding granted
returns g c =
    let p = plain_of g.S.Map.meaning c.args.book.now in
    let e : c.as_mut_slice.result.now ≡ c.args.sheet.now = search rules in
    subst (λ (sheet : List ℕ). Turned g.S.Store.room (Reach c.args.s c.args.t sheet) p p c.map.result) e
    (wrapped-turned g.S.Store.room p p (Reach c.args.s c.args.t c.as_mut_slice.result.now) _ (λ n. told.Reached n) c.reach.result _ c.reach.ensures.told c.map.ensures.cases refl (asked-left g.S.Store.room p _ refl))
