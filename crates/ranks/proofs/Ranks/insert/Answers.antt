-- There is room, and the ranks are numbered anew from the place on.
use Rattle.std.proofs.Common.{◌≡◌, ◌≤◌, length, take, false, ap, ◌∙◌, arith}
use Rattle.theory.specs.Maps.{listed}
use Rattle.theory.specs.Ranks.{inserted}
use Rattle.ranks.proofs.Changes.{Changed, insert-room, insert-within, insert_changed}
use Rattle.ranks.proofs.Ranks.insert.Goals.{After-put_in}
use Rattle.ranks.proofs.Ranks.insert.Goals as goal

pub put_in-requires : goal.put_in-requires
put_in-requires c =
    let s = c.self.inside in
    let most : c.args.u ≤ 255 = omega arith in
    let off : listed c.args.u (take s.n s.order) ≡ false = ap (listed c.args.u) c.self.view_is ∙ c.requires.absent in
    let within : c.args.k ≤ length (take s.n s.order) = omega (arith, ap length c.self.view_is, c.requires.within) in
    record {
      room = insert-room s.order s.n s.place c.self.invariant c.args.k c.args.u c.requires.unit most off within;
      within = insert-within s.order s.n s.place c.self.invariant c.args.k c.args.u c.requires.unit most off within;
    }

put : (c : After-put_in) → Changed c.self.inside.place (inserted c.args.k c.args.u (take c.self.inside.n c.self.inside.order)) c.put_in.new.order c.put_in.new.n c.args.k
put c =
    let s = c.self.inside in
    let p = c.put_in.ensures in
    let off : listed c.args.u (take s.n s.order) ≡ false = ap (listed c.args.u) c.self.view_is ∙ c.requires.absent in
    let within : c.args.k ≤ length (take s.n s.order) = omega (arith, ap length c.self.view_is, c.requires.within) in
    insert_changed s.order s.n s.place c.self.invariant c.args.k c.args.u c.requires.unit (omega arith) off within c.put_in.new.order c.put_in.new.n p.count p.long p.above p.here p.below p.spare

pub renumber-requires-clause-once : goal.renumber-requires-clause-once
renumber-requires-clause-once c = (put (goal.at.renumber-requires-clause-once c).After-put_in).once

pub renumber-requires-clause-before : goal.renumber-requires-clause-before
renumber-requires-clause-before c = (put (goal.at.renumber-requires-clause-before c).After-put_in).before

pub invariant_of-self : goal.invariant_of-self
invariant_of-self c =
    (put (goal.at.invariant_of-self c).After-put_in).kept c.renumber.new.place c.renumber.ensures.long c.renumber.ensures.numbered c.renumber.ensures.kept

pub returns : goal.returns
returns c = (put (goal.at.returns c).After-put_in).is ∙ ap (inserted c.args.k c.args.u) c.self.view_is
