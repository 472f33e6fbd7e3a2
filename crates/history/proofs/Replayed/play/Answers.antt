use Rattle.std.proofs.Common.{◌≡◌, ◌+◌, List, [], ◌∷◌, ◌++◌, map, get_or, take, vec_items, sym, refl, ap, ◌∙◌, subst}
use Rattle.std.proofs.lemmas.List.{take_more, take_all, map-append}
use Rattle.std.proofs.lemmas.Slice.{pushed}
use Rattle.plain.specs.Requests.{Request}
use Rattle.book.specs.Views.{plain_of}
use Rattle.history.specs.declared.calls.Call.{Call}
use Rattle.history.specs.Calls.{request_of}
use Rattle.history.specs.Played.{Played}
use Rattle.history.proofs.Playing.{played-more, played-one}
use Rattle.history.proofs.Replayed.play.Goals as goal

pub loop-call-preserved : goal.loop-call-preserved
loop-call-preserved g c =
    let means = g.S.Map.meaning in
    let i = c.loop-call.call-index in
    let x = c.call-item.result in
    let calls = c.args.calls.now in
    let list : map request_of (take (i + 1) calls) ≡ map request_of (take i calls) ++ request_of x ∷ [] =
    ap (map request_of) (take_more calls i x c.loop-call-test.true) ∙ map-append request_of (take i calls) (get_or calls i x ∷ []) ∙ ap (λ (y : Call). map request_of (take i calls) ++ request_of y ∷ []) (sym c.call-item.is) in (
      c.in_ok-answer.ensures.whole,
      subst (λ (rs : List Request). Played g.S.Store.room rs (plain_of means c.args.self.now.book) (plain_of means c.turn.new.book) (vec_items c.args.self.now.answers) (vec_items c.push.new.self)) (sym list)
          (played-more g.S.Store.room (map request_of (take i calls)) (request_of x ∷ []) _ (plain_of means c.loop-call.self.book) _ _ (vec_items c.loop-call.self.answers) _ c.loop-call.invariant.1
          (played-one g.S.Store.room (request_of x) _ _ c.in_ok-answer.answer (vec_items c.loop-call.self.answers) (vec_items c.push.new.self) c.in_ok-answer.ensures.turned c.loop-call.invariant.0.lawful c.in_ok-answer.ensures.whole.lawful
          (pushed (c.in_ok-answer.answer ∷ []) refl c.in_ok-push.was c.push.ensures.items))),
    )

pub returns : goal.returns
returns g c =
    let means = g.S.Map.meaning in
    let calls = c.args.calls.now in
    record {
      played = subst (λ (xs : List Call). Played g.S.Store.room (map request_of xs) (plain_of means c.args.self.now.book) (plain_of means c.loop-call.self.book) (vec_items c.args.self.now.answers) (vec_items c.loop-call.self.answers)) (take_all _ calls c.loop-call-test.false) c.loop-call.invariant.1;
      whole = c.loop-call.invariant.0;
    }
