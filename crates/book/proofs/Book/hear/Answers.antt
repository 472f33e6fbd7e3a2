use Rattle.plain.specs.Plain.{map_of}
use Rattle.plain.specs.Requests.{Hear, checks, verdict}
use Rattle.book.specs.Views.{plain_of}
use Rattle.book.proofs.Answering.{answered-ok, answered-err, by-chains}
use Rattle.book.proofs.Book.hear.Goals as goal

pub returns-in_err-check_known : goal.returns-in_err-check_known
unfolding checks
returns-in_err-check_known g c =
    let p = plain_of g.S.Map.meaning c.args.self.now in
    let told = answered-err (verdict g.S.Store.room p (Hear c.args.s c.args.t)) _ c.from_residual.result _ c.in_err-check_known.ensures c.from_residual.ensures.1 in
    record { told = told; chains = by-chains (map_of p) c.requires.lawful.sound c.args.s c.args.t _ c.from_residual.result told }

pub returns : goal.returns
unfolding checks
returns g c =
    let p = plain_of g.S.Map.meaning c.args.self.now in
    let told = answered-ok (verdict g.S.Store.room p (Hear c.args.s c.args.t)) _ _ c.in_ok-check_known.ensures c.is_heard.ensures in
    record { told = told; chains = by-chains (map_of p) c.requires.lawful.sound c.args.s c.args.t _ _ told }
