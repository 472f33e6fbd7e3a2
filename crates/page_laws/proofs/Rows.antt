-- The pairings of a page grow by the chain of one unit more; with all records seen the page is lawful.
use Rattle.std.proofs.Common.{◌≡◌, ℕ, suc, ◌+◌, ◌<◌, ◌≤◌, Bool, true, false, cond, ◌&&◌, ◌||◌, T, eqb, ◌⊎◌, List, [], ◌∷◌, get_or, sym, refl, ap, ◌∙◌, subst, inl, inr, arith, eqb→eq}
use Rattle.std.proofs.lemmas.Bool.{cases_eq, eq-eqb, ne_eqb, both_ways}
use Rattle.theory.specs.Maps.{listed}
use Rattle.theory.specs.Chains.{On}
use Rattle.theory.specs.Ranks.{Once}
use Rattle.theory.proofs.Tests.{and-fst, same_tests, passes, passed}
use Rattle.theory.proofs.Lists.{listed-on}
use Rattle.theory.proofs.Distinct.{on-from-listed}
use Rattle.plain.specs.Lists.{some, every, numbers, each}
use Rattle.plain.specs.Pages.{has_form, unit_count, record_count, unit_in, listener_in, page_units, unit_chain, chains, page_book}
use Rattle.plain.proofs.Some.{some-on, some-append}
use Rattle.page_laws.specs.Parts.{Parts, Followed}
use Rattle.page_laws.specs.Pairs.{by_unit, paired_by}
use Rattle.page_laws.proofs.Numbers.{every-on, on-numbers, numbers_more, on-each}
use Rattle.page_laws.proofs.Units.{front, unit-twice}

pub paired-more : (page : List ℕ) (i : ℕ) → i < unit_count page → Once (page_units page) → (a b : ℕ) →
    paired_by page (i + 1) a b ≡ cond (eqb a (unit_in page i)) (listed b (each (listener_in page) (unit_chain page i))) (paired_by page i a b)
paired-more page i h once a b = grown ∙ go (cases_eq a (unit_in page i))
  where
    grown : paired_by page (i + 1) a b ≡ (paired_by page i a b || (eqb (unit_in page i) a && listed b (each (listener_in page) (unit_chain page i))))
    grown =
        let up : i + 1 ≡ suc i = omega arith in
        let here : 0 + i ≡ i = omega arith in
        ap (λ (n : ℕ). paired_by page n a b) up ∙ ap (some (by_unit page a b)) (numbers_more 0 i) ∙ some-append (by_unit page a b) (numbers 0 i) ((0 + i) ∷ []) ∙ ap (λ (n : ℕ). paired_by page i a b || (by_unit page a b n || false)) here
        ∙ last (paired_by page i a b) (eqb (unit_in page i) a && listed b (each (listener_in page) (unit_chain page i)))
      where
        last : (p q : Bool) → (p || (q || false)) ≡ (p || q)
        last true q = refl
        last false true = refl
        last false false = refl

    none : a ≡ unit_in page i → paired_by page i a b ≡ false
    none e = same_tests (paired_by page i a b) false (λ t. let s = (some-on _ (numbers 0 i)).0 t in early s.0 s.1 (eqb→eq _ _ (and-fst (eqb (unit_in page s.0) a) _ s.2))) (λ t. absurd t)
      where
        early : (j : ℕ) → On j (numbers 0 i) → unit_in page j ≡ a → ⊥
        early j o q = unit-twice page i h (subst (λ (u : ℕ). On u (front page i)) (q ∙ e) (on-each (unit_in page) (numbers 0 i) j o)) once

    joined : (p q l : Bool) (r : Bool) → p ≡ false → q ≡ true → r ≡ true → (p || (q && l)) ≡ cond r l p
    joined p q l r e f g = ap (λ (z : Bool). z || (q && l)) e ∙ ap (λ (z : Bool). z && l) f ∙ ap (λ (z : Bool). cond z l p) (sym g)

    apart : (p q l : Bool) (r : Bool) → q ≡ false → r ≡ false → (p || (q && l)) ≡ cond r l p
    apart p q l r f g = ap (λ (z : Bool). p || (z && l)) f ∙ or-none p ∙ ap (λ (z : Bool). cond z l p) (sym g)
      where
        or-none : (z : Bool) → (z || false) ≡ z
        or-none true = refl
        or-none false = refl

    go : (a ≡ unit_in page i) ⊎ (a ≡ unit_in page i → ⊥) → (paired_by page i a b || (eqb (unit_in page i) a && listed b (each (listener_in page) (unit_chain page i)))) ≡ cond (eqb a (unit_in page i)) (listed b (each (listener_in page) (unit_chain page i))) (paired_by page i a b)
    go (inl e) = joined _ _ _ _ (none e) (eq-eqb _ _ (sym e)) (eq-eqb _ _ e)
    go (inr ne) = apart _ _ _ _ (ne_eqb _ _ (λ q. ne (sym q))) (ne_eqb _ _ ne)

pub paired-all : (page : List ℕ) (a b : ℕ) → (page_book page).pair a b ≡ paired_by page (unit_count page) a b
unfolding page_book
paired-all page a b = refl

-- nothing was followed yet
pub followed-none : (page : List ℕ) (seen : List Bool) → ((r : ℕ) → get_or seen r false ≡ false) → Followed page 0 seen
unfolding chains
followed-none page seen none = record {
  marked = record { marks = λ r h. none r; right = λ r o. absurd o; once = tt };
  firsts = λ j h. absurd (omega arith);
  lists = λ j h. absurd (omega arith);
}

-- all was followed, and every record seen
pub followed-all : (page : List ℕ) (seen : List Bool) → has_form page ≡ true → ((u : ℕ) → On u (page_units page) → 1 ≤ u) → Once (page_units page) → Followed page (unit_count page) seen →
    every (λ k. get_or seen k false) (numbers 1 (record_count page)) ≡ true → Parts page
followed-all page seen form low differ f all = record {
  form = form;
  units = λ u o e. let h = low u o in omega arith;
  differ = differ;
  records = λ r l h. f.marked.right r (there r l h);
  firsts = f.firsts;
  reached = there;
  once = f.marked.once;
  lists = f.lists;
}
  where
    there : (r : ℕ) → 1 ≤ r → r ≤ record_count page → On r (chains page (numbers 0 (unit_count page)))
    there r l h =
        on-from-listed r _ (sym (f.marked.marks r h) ∙ passed _ ((every-on (λ k. get_or seen k false) (numbers 1 (record_count page))).0 (passes _ all) r ((on-numbers 1 (record_count page) r).1 (l, omega arith))))

-- a record that was not seen is in no chain
pub not-reached : (page : List ℕ) (seen : List Bool) → Followed page (unit_count page) seen → every (λ k. get_or seen k false) (numbers 1 (record_count page)) ≡ false → Parts page → ⊥
not-reached page seen f some p =
    both_ways _ some (passed _ ((every-on (λ k. get_or seen k false) (numbers 1 (record_count page))).1 (λ r o. let b = (on-numbers 1 (record_count page) r).0 o in seen_at r b.0 b.1)))
  where
    seen_at : (r : ℕ) → 1 ≤ r → r < 1 + record_count page → T (get_or seen r false)
    seen_at r l h =
        let high : r ≤ record_count page = omega arith in
        passes _ (f.marked.marks r high ∙ passed _ ((listed-on r _).1 (p.reached r l high)))
