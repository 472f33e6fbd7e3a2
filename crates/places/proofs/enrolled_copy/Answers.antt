-- The copy has the new unit besides, so its sources can be paired to it, and then it to its listeners.
use Rattle.std.proofs.Common.{◌≡◌, rules}
use Rattle.grid.specs.Meaning.{matrix_map}
use Rattle.partners.specs.Joins.{joined}
use Rattle.places.proofs.Adding.{sources-there, listeners-there, copy-enrolled}
use Rattle.places.proofs.enrolled_copy.Goals as goal

pub add_all-requires-clause-able : goal.add_all-requires-clause-able
add_all-requires-clause-able g c =
    let v = c.args.v in (
      λ s. (s, v),
      λ u h q k. search rules,
      sources-there (g.M.Map.meaning c.args.m.now) (matrix_map c.copy_of-map.result) (matrix_map c.add_unit.new.self) v c.args.partners.now.sources.now c.args.partners.now.listeners.now c.requires c.copy_of-map.ensures c.add_unit.ensures,
    )

pub add_all-requires-2-clause-able : goal.add_all-requires-2-clause-able
add_all-requires-2-clause-able g c =
    let v = c.args.v in
    let sources = c.args.partners.now.sources.now in
    let half : matrix_map c.add_all.new.map ≡ joined (λ s. (s, v)) sources (matrix_map c.add_unit.new.self) = c.add_all.ensures (λ s. (s, v)) (λ u h q k. search rules) in (
      λ t. (v, t),
      λ u h q k. search rules,
      listeners-there (g.M.Map.meaning c.args.m.now) (matrix_map c.copy_of-map.result) (matrix_map c.add_unit.new.self) v sources c.args.partners.now.listeners.now c.requires c.copy_of-map.ensures c.add_unit.ensures (matrix_map c.add_all.new.map) half,
    )

pub returns : goal.returns
returns g c =
    let v = c.args.v in
    let sources = c.args.partners.now.sources.now in
    let half : matrix_map c.add_all.new.map ≡ joined (λ s. (s, v)) sources (matrix_map c.add_unit.new.self) = c.add_all.ensures (λ s. (s, v)) (λ u h q k. search rules) in
    copy-enrolled (g.M.Map.meaning c.args.m.now) (matrix_map c.copy_of-map.result) (matrix_map c.add_unit.new.self) v sources c.args.partners.now.listeners.now c.requires c.copy_of-map.ensures c.add_unit.ensures (matrix_map c.add_all.new.map) half
    (matrix_map c.add_all-2.new.map) (c.add_all-2.ensures (λ t. (v, t)) (λ u h q k. search rules))
