use Rattle.std.proofs.Common.{◌≡◌, [], ◌∷◌, Ok, vec_items, refl, subst}
use Rattle.std.proofs.lemmas.Slice.{pushed}
use Rattle.plain.specs.Plain.{empty, Lawful}
use Rattle.plain.specs.Requests.{Make, checks, granted}
use Rattle.book.specs.Views.{plain_of}
use Rattle.history.specs.declared.calls.Told.TheVariants as told
use Rattle.history.proofs.Playing.{played-one}
use Rattle.history.proofs.made_empty.Goals as goal

pub returns : goal.returns
unfolding checks granted
returns g c =
    let p = plain_of g.S.Map.meaning c.make-book.result in
    let is : p ≡ empty = c.make-book.ensures.empty in
    record {
      played = played-one g.S.Store.room Make empty p (Ok told.Done) [] (vec_items c.push.new.self) (record { answered = refl; left = is })
          (subst Lawful is c.make-book.ensures.whole.lawful) c.make-book.ensures.whole.lawful (pushed (Ok told.Done ∷ []) c.new-answers.ensures.items c.in_ok-push.was c.push.ensures.items);
      whole = c.make-book.ensures.whole;
    }
