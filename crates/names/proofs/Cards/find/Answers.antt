use Rattle.std.proofs.Common.{◌≡◌, ℕ, ltb, Some, take, sym, refl, subst, ap, ◌∙◌, rules, tests, MatchOption}
use Rattle.std.proofs.lemmas.Bool.{le-ltb, cond-false}
use Rattle.std.proofs.lemmas.Iterator.{YieldsList-from_range}
use Rattle.std.proofs.lemmas.Iterator.Adapters.{option_map_id}
use Rattle.std.proofs.lemmas.Iterator.Search.{find_from_yields_List}
use Rattle.names.specs.Names.{is_name, unit_named}
use Rattle.names.specs.Cards.{names_of}
use Rattle.names.proofs.Finding.{first-named, holder}
use Rattle.names.proofs.Cards.find.Goals as goal

pub returns : goal.returns
returns c =
    let names = names_of c.args.self.now in
    let name = c.args.name.now in
    let sought = take c.of-sought.result.len c.of-sought.result.bytes in
    let found = find_from_yields_List (λ u. is_name (names u) sought) _ _ c.find.result c.find.ensures.ran (YieldsList-from_range 0 256 256 refl refl) (λ x b q k. search (rules, tests)) in
    let cast : c.map.result ≡ c.find.result = search (rules, tests) in
    let is = cast ∙ sym (option_map_id c.find.result) ∙ found ∙ first-named names sought ∙ ap (unit_named names) c.of-sought.ensures in
    record {
      is = is;
      holder = subst (λ o. MatchOption o ((u : ℕ) → names u ≡ Some name → ⊥) (λ u. names u ≡ Some name)) (sym is) (holder names name (λ u h. cond-false (ltb u 256) _ _ (le-ltb u 256 h)));
    }
