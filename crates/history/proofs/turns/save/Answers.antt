use Rattle.std.proofs.Common.{rules, ◌≡◌, ℕ, length, IfOk, subst}
use Rattle.plain.specs.Requests.{Save}
use Rattle.history.specs.Calls.{Turned}
use Rattle.std.proofs.lemmas.Result.{IfOk-weaker}
use Rattle.book.specs.Views.{plain_of}
use Rattle.history.proofs.Turning.{save-fits, save-turned}
use Rattle.history.proofs.turns.save.Goals as goal

pub written-requires : goal.written-requires
written-requires g c = save-fits g.S.Store.room (plain_of g.S.Map.meaning c.args.book.now) _ _ _ _ c.save-told.ensures

pub returns : goal.returns
returns g c =
    let p = plain_of g.S.Map.meaning c.args.book.now in
    let e : length c.as_mut_slice-buffer.result.now ≡ c.args.room = search rules in
    subst (λ (room : ℕ). IfOk c.written.result (λ a. Turned g.S.Store.room (Save c.args.place room) p p a)) e
    (IfOk-weaker c.written.result _ _ (λ a is. save-turned g.S.Store.room p _ _ _ _ c.save-told.ensures a is) c.written.ensures)
