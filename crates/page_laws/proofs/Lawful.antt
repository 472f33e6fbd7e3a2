-- The test of lawful pages and its facts: each part of the test is one fact.
use Rattle.std.proofs.Common.{◌≡◌, ℕ, ◌≤◌, Bool, true, false, not, ◌&&◌, T, eqb, leb, List, refl, arith}
use Rattle.std.proofs.lemmas.Bool.{leb-true, le-leb}
use Rattle.theory.specs.Maps.{listed}
use Rattle.theory.specs.Chains.{On}
use Rattle.theory.proofs.Tests.{and-fst, and-snd, and_both, passes, passed, differ, differs}
use Rattle.theory.proofs.Lists.{listed-on}
use Rattle.plain.specs.Lists.{every, doubled, numbers, each}
use Rattle.plain.specs.Pages.{has_form, units_right, records_right, firsts_right, chains_right, lawful_by_parts, unit_count, record_count, first_of, listener_in, next_of, page_units, unit_chain, chains}
use Rattle.page_laws.specs.Parts.{Parts}
use Rattle.page_laws.proofs.Numbers.{every-on, once-doubled, on-numbers}

pub parts : (page : List ℕ) → lawful_by_parts page ≡ true → Parts page
unfolding lawful_by_parts
parts page e =
    let t0 = passes (lawful_by_parts page) e in
    let t1 = and-snd (has_form page) _ t0 in
    let t2 = and-snd (units_right page) _ t1 in
    let t3 = and-snd (records_right page) _ t2 in
    let t4 = and-snd (firsts_right page) _ t3 in
    let units = and-fst (units_right page) _ t1 in
    let records = (every-on _ _).0 (and-fst (records_right page) _ t2) in
    let chained = and-fst (chains_right page) _ t4 in
    record {
      form = passed (has_form page) (and-fst (has_form page) _ t0);
      units = λ u o. differ u 0 ((every-on _ _).0 (and-fst (every (λ u. not (eqb u 0)) (page_units page)) _ units) u o);
      differ = (once-doubled (page_units page)).0 (and-snd (every (λ u. not (eqb u 0)) (page_units page)) _ units);
      records = λ r l h. let t = records r ((on-numbers 1 (record_count page) r).1 (l, omega arith)) in record {
        low = l;
        high = h;
        next = leb-true _ _ (passed (leb (next_of page r) (record_count page)) (and-snd (listed (listener_in page r) (page_units page)) _ t));
        listener = (listed-on (listener_in page r) (page_units page)).0 (and-fst (listed (listener_in page r) (page_units page)) _ t);
      };
      firsts = λ i h. leb-true _ _ (passed (leb (first_of page i) (record_count page)) ((every-on _ _).0 (and-fst (firsts_right page) _ t3) i ((on-numbers 0 (unit_count page) i).1 (omega arith, omega arith))));
      reached = λ r l h. (listed-on r _).0 ((every-on _ _).0 (and-fst (every (λ r. listed r (chains page (numbers 0 (unit_count page)))) (numbers 1 (record_count page))) _ chained) r ((on-numbers 1 (record_count page) r).1 (l, omega arith)));
      once = (once-doubled _).0 (and-snd (every (λ r. listed r (chains page (numbers 0 (unit_count page)))) (numbers 1 (record_count page))) _ chained);
      lists = λ i h. (once-doubled _).0 ((every-on _ _).0 (and-snd (chains_right page) _ t4) i ((on-numbers 0 (unit_count page) i).1 (omega arith, omega arith)));
    }

pub lawful : (page : List ℕ) → Parts page → lawful_by_parts page ≡ true
unfolding lawful_by_parts
lawful page p =
    passed (lawful_by_parts page)
    (and_both (has_form page) _ (passes (has_form page) p.form)
    (and_both (units_right page) _
    (and_both (every (λ u. not (eqb u 0)) (page_units page)) _ ((every-on _ _).1 (λ u o. differs u 0 (p.units u o))) ((once-doubled (page_units page)).1 p.differ))
    (and_both (records_right page) _ ((every-on _ _).1 record-right)
    (and_both (firsts_right page) _ ((every-on _ _).1 first-right)
    (and_both (chains_right page) _
    (and_both (every (λ r. listed r (chains page (numbers 0 (unit_count page)))) (numbers 1 (record_count page))) _ ((every-on _ _).1 chain-right) ((once-doubled _).1 p.once))
    ((every-on _ _).1 list_right))))))
  where
    record-right : (r : ℕ) → On r (numbers 1 (record_count page)) → T (listed (listener_in page r) (page_units page) && leb (next_of page r) (record_count page))
    record-right r o =
        let b = (on-numbers 1 (record_count page) r).0 o in
        let high : r ≤ record_count page = omega (arith, b.1) in
        let right = p.records r b.0 high in
        and_both (listed (listener_in page r) (page_units page)) _ ((listed-on (listener_in page r) (page_units page)).1 right.listener) (passes _ (le-leb _ _ right.next))

    first-right : (i : ℕ) → On i (numbers 0 (unit_count page)) → T (leb (first_of page i) (record_count page))
    first-right i o = let b = ((on-numbers 0 (unit_count page) i).0 o).1 in passes _ (le-leb _ _ (p.firsts i (omega arith)))

    chain-right : (r : ℕ) → On r (numbers 1 (record_count page)) → T (listed r (chains page (numbers 0 (unit_count page))))
    chain-right r o =
        let b = (on-numbers 1 (record_count page) r).0 o in
        let high : r ≤ record_count page = omega (arith, b.1) in
        (listed-on r _).1 (p.reached r b.0 high)

    list_right : (i : ℕ) → On i (numbers 0 (unit_count page)) → T (not (doubled (each (listener_in page) (unit_chain page i))))
    list_right i o = let b = ((on-numbers 0 (unit_count page) i).0 o).1 in (once-doubled _).1 (p.lists i (omega arith))

pub unlawful : (page : List ℕ) → (Parts page → ⊥) → lawful_by_parts page ≡ false
unlawful page never = go (lawful_by_parts page) refl
  where
    go : (b : Bool) → lawful_by_parts page ≡ b → lawful_by_parts page ≡ false
    go true e = absurd (never (parts page e))
    go false e = e
