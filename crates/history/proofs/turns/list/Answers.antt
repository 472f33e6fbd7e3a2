use Rattle.std.proofs.Common.{rules, ◌≡◌, ℕ, length, IfOk, refl, subst}
use Rattle.std.proofs.lemmas.Result.{IfOk-weaker}
use Rattle.plain.specs.Plain.{Plain, map_of}
use Rattle.plain.specs.Requests.{granted}
use Rattle.book.specs.Views.{plain_of}
use Rattle.histories.specs.Replies.{Written, told}
use Rattle.labels.specs.declared.lists.List.{List as Wanted}
use Rattle.labels.specs.declared.lists.List.TheVariants as wanted
use Rattle.labels.specs.Listed.{list_of}
use Rattle.book.specs.Answers.{list_request}
use Rattle.history.specs.Calls.{Turned}
use Rattle.history.proofs.Turning.{list-fits, list-turned}
use Rattle.history.proofs.turns.list.Goals as goal

list-told : (w : Wanted) (p : Plain) (unit room : ℕ) → told p (list_request w unit room) ≡ Written (list_of w (map_of p) p.order unit)
list-told wanted.InLabels p unit room = refl
list-told wanted.OutLabels p unit room = refl
list-told wanted.InHolders p unit room = refl
list-told wanted.OutHolders p unit room = refl

list_left : (w : Wanted) (p : Plain) (unit room : ℕ) → granted p (list_request w unit room) ≡ p
unfolding granted
list_left wanted.InLabels p unit room = refl
list_left wanted.OutLabels p unit room = refl
list_left wanted.InHolders p unit room = refl
list_left wanted.OutHolders p unit room = refl

pub written-requires : goal.written-requires
written-requires g c = list-fits g.S.Store.room (plain_of g.S.Map.meaning c.args.book.now) _ _ _ _ _ c.list-told.ensures.listed

pub returns : goal.returns
returns g c =
    let p = plain_of g.S.Map.meaning c.args.book.now in
    let e : length c.as_mut_slice-buffer.result.now ≡ c.args.room = search rules in
    subst (λ (room : ℕ). IfOk c.written.result (λ a. Turned g.S.Store.room (list_request c.args.list c.args.unit room) p p a)) e
    (IfOk-weaker c.written.result _ _
    (λ a is. list-turned g.S.Store.room p _ _ _ _ _ c.list-told.ensures.listed a is (list-told c.args.list p c.args.unit _) (list_left c.args.list p c.args.unit _))
    c.written.ensures)
