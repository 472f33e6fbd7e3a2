use Rattle.book.proofs.Agree.{keeps}
use Rattle.book.proofs.Enrolling.{ring-told}
use Rattle.book.proofs.Book.makes_ring.Goals as goal

pub returns : goal.returns
returns g c =
    ring-told (g.S.Map.meaning c.args.self.now.store) c.args.self.now.ranks c.args.self.now.labels (keeps _ _ _ c.requires.whole) c.args.partners.now.sources.now c.args.partners.now.listeners.now c.requires.stand
    c.ranked.result c.ranked.ensures.labels c.ranked.ensures.order _ c.make_ring.ensures
