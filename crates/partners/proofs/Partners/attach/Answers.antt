-- The new unit is in the store, so its sources can be joined to it, and then it to its listeners.
use Rattle.std.proofs.Common.{◌≡◌, sym, refl, ap, ◌∙◌, subst, rules}
use Rattle.theory.specs.Maps.{with_unit}
use Rattle.partners.specs.Joins.{joined, Joinable}
use Rattle.partners.proofs.Joins.{sources-able, listeners-able, attached}
use Rattle.partners.proofs.Partners.attach.Goals as goal

pub join_all-requires-clause-able : goal.join_all-requires-clause-able
join_all-requires-clause-able g c =
    let v = c.args.v in
    let able = subst (λ x. Joinable g.S.Store.room (λ s. (s, v)) c.args.self.now.sources.now x) (sym c.in_ok-put.ensures.1)
    (sources-able g.S.Store.room (g.S.Map.meaning c.args.store.now) c.sound.ensures v c.args.self.now.sources.now c.args.self.now.listeners.now c.requires.new c.requires.once c.requires.fits) in
    (λ s. (s, v), λ u h q k. search rules, λ u w e f. e, able)

pub join_all-requires-2-clause-able : goal.join_all-requires-2-clause-able
join_all-requires-2-clause-able g c =
    let v = c.args.v in
    let m = g.S.Map.meaning c.args.store.now in
    let sources = c.args.self.now.sources.now in
    let half : g.S.Map.meaning c.join_all.new.store ≡ joined (λ s. (s, v)) sources (with_unit v m) = c.join_all.ensures.left (λ s. (s, v)) (λ u h q k. search rules) ∙ ap (joined (λ s. (s, v)) sources) c.in_ok-put.ensures.1 in
    let able = subst (λ x. Joinable g.S.Store.room (λ t. (v, t)) c.args.self.now.listeners.now x) (sym half)
    (listeners-able g.S.Store.room m c.sound.ensures v sources c.args.self.now.listeners.now c.requires.new c.requires.once c.requires.fits) in
    (λ t. (v, t), λ u h q k. search rules, λ u w e f. f, able)

pub returns : goal.returns
returns g c =
    let m = g.S.Map.meaning c.args.store.now in
    let sources = c.args.self.now.sources.now in
    let listeners = c.args.self.now.listeners.now in
    let half : g.S.Map.meaning c.join_all.new.store ≡ joined (λ s. (s, c.args.v)) sources (with_unit c.args.v m) =
    c.join_all.ensures.left (λ s. (s, c.args.v)) (λ u h q k. search rules) ∙ ap (joined (λ s. (s, c.args.v)) sources) c.in_ok-put.ensures.1 in
    record {
      granted = refl;
      left =
          c.join_all-2.ensures.left (λ t. (c.args.v, t)) (λ u h q k. search rules) ∙ ap (joined (λ t. (c.args.v, t)) listeners) half
          ∙ attached m c.args.v sources listeners;
    }
