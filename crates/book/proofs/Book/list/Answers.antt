use Rattle.std.proofs.Common.{length}
use Rattle.labels.specs.Listed.{list_of}
use Rattle.plain.specs.Plain.{map_of}
use Rattle.book.specs.Views.{plain_of}
use Rattle.book.specs.Answers.{list_request}
use Rattle.book.proofs.Listing.{list-refused, list-told, list-checks, by_order}
use Rattle.book.proofs.Keeping.{list-kept}
use Rattle.book.proofs.Book.list.Goals as goal

pub returns-in_err-check_known : goal.returns-in_err-check_known
returns-in_err-check_known g c =
    let p = plain_of g.S.Map.meaning c.args.self.now in
    record {
      listed =
          list-refused g.S.Store.room p (list_request c.args.list c.args.u (length c.args.buffer.now)) (list_of c.args.list (map_of p) p.order c.args.u) c.args.buffer.now c.args.u
          (list-checks g.S.Store.room p c.args.list c.args.u (length c.args.buffer.now)) _ c.from_residual.result c.in_err-check_known.ensures c.from_residual.ensures.1;
      kept = list-kept g.S.Map.meaning c.args.self.now c.args.list c.args.u c.requires;
    }

pub returns : goal.returns
returns g c =
    let p = plain_of g.S.Map.meaning c.args.self.now in
    record {
      listed =
          list-told g.S.Store.room p (list_request c.args.list c.args.u (length c.args.buffer.now)) (list_of c.args.list (map_of p) p.order c.args.u) c.args.buffer.now c.args.u
          (list-checks g.S.Store.room p c.args.list c.args.u (length c.args.buffer.now)) _ c.fitted.result _ c.in_ok-check_known.ensures
          (c.write_list.ensures _ c.requires.exact) c.fitted.ensures;
      kept = list-kept g.S.Map.meaning c.args.self.now c.args.list c.args.u c.requires;
    }
