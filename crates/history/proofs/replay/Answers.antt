use Rattle.std.proofs.Common.{◌++◌, map, option_copied, vec_items}
use Rattle.book.specs.Views.{plain_of}
use Rattle.histories.proofs.Kept.{promised}
use Rattle.history.specs.Calls.{request_of, reply_of, opening}
use Rattle.history.proofs.Playing.{played-more}
use Rattle.history.proofs.replay.Goals as goal

pub returns : goal.returns
returns g c =
    let means = g.S.Map.meaning in
    let begun = c.in_ok-replayed.ensures in
    let done = c.in_ok-play.ensures in
    let all =
    played-more g.S.Store.room (opening (option_copied c.args.page)) (map request_of c.args.calls.now) _ (plain_of means c.in_ok-replayed.replayed.book) _ _ (vec_items c.in_ok-replayed.replayed.answers) _ begun.played done.played in
    promised means g.S.Store.room (opening (option_copied c.args.page) ++ map request_of c.args.calls.now) c.play.new.self.book (map reply_of (vec_items c.play.new.self.answers)) done.whole all.left all.answered all.lawful
