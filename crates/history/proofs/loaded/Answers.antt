use Rattle.std.proofs.Common.{[], ◌∷◌, vec_items, refl}
use Rattle.std.proofs.lemmas.Slice.{pushed}
use Rattle.plain.specs.Requests.{Make, Load}
use Rattle.book.specs.Views.{plain_of}
use Rattle.history.proofs.Playing.{played-more, played-one}
use Rattle.history.proofs.loaded.Goals as goal

pub returns : goal.returns
returns g c =
    let means = g.S.Map.meaning in
    record {
      played = played-more g.S.Store.room (Make ∷ []) (Load c.args.page.now ∷ []) _ (plain_of means c.args.empty.book) _ _ (vec_items c.args.empty.answers) _ c.requires.played
          (played-one g.S.Store.room (Load c.args.page.now) _ _ c.load-answer.result (vec_items c.args.empty.answers) _ c.load-answer.ensures.turned c.requires.whole.lawful c.load-answer.ensures.whole.lawful
          (pushed (c.load-answer.result ∷ []) refl c.in_ok-push.was c.push.ensures.items));
      whole = c.load-answer.ensures.whole;
    }
