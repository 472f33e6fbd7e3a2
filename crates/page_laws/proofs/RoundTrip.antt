-- A saved page is lawful and says the book that was saved.
use Rattle.std.proofs.Common.{◌≡◌, ℕ, suc, ◌+◌, ◌*◌, ◌<◌, ◌≤◌, Bool, true, false, ◌&&◌, T, eqb, List, [], ◌++◌, length, get_or, sym, refl, ap, ◌∙◌, subst, ⊎_elim, append_assoc, append-nil, arith, eqb→eq, length-append}
use native.Mathlib.Nat.{mod-add-div}
use Rattle.std.proofs.lemmas.Bool.{le-leb, eq-eqb, and_from}
use Rattle.theory.specs.Maps.{listed}
use Rattle.theory.specs.Chains.{On}
use Rattle.theory.specs.Counts.{pair_count}
use Rattle.theory.specs.Ranks.{Once}
use Rattle.theory.specs.Lists.{sum}
use Rattle.theory.proofs.Tests.{passes, same_tests, and-fst, and-snd, and_both, or-either}
use Rattle.theory.proofs.Warshall.{heard-sound}
use Rattle.theory.proofs.Rings.{rings-kept-out}
use Rattle.theory.proofs.Lists.{listed-on, on-picked, once-picked}
use Rattle.plain.specs.Lists.{some, numbers, each}
use Rattle.plain.specs.Plain.{Plain, map_of, Lawful}
use Rattle.plain.specs.Pages.{word, has_form, unit_count, record_count, unit_in, listener_in, page_units, chains, page_book, has_ring_or_loop}
use Rattle.plain.specs.Saving.{ascending, head_bytes, unit_bytes, pairing_bytes, saved_page}
use Rattle.plain.proofs.Some.{some-on}
use Rattle.page_laws.specs.Parts.{Right, Parts}
use Rattle.page_laws.specs.Pairs.{paired_by}
use Rattle.page_laws.specs.Theorems.{SavedReadsBack}
use Rattle.page_laws.proofs.Numbers.{on-numbers, once-numbers}
use Rattle.page_laws.proofs.Lawful.{lawful}
use Rattle.page_laws.proofs.Units.{units-all}
use Rattle.page_laws.proofs.Rows.{paired-all}
use Rattle.page_laws.proofs.Book.{page-order}
use Rattle.page_laws.proofs.Sums.{listeners-sum}
use Rattle.page_laws.proofs.Saved.{saved-length}
use Rattle.page_laws.proofs.Writing.{length-units}
use Rattle.page_laws.proofs.Stored.{Heads, AllLinks, heads-stored, all-links-stored}
use Rattle.page_laws.proofs.Back.{size, OfUnit, units-back, chains-back, unit-back, record-back, pairs-back}

module _ (p : Plain) (law : Lawful p) (few : pair_count (map_of p) ≤ 8000) where
  is : saved_page p ≡ head_bytes (length p.order) (pair_count (map_of p)) ++ (unit_bytes p.pair 1 p.order ++ pairing_bytes p.pair 1 p.order)
  unfolding saved_page
  is = refl

  units_of : unit_count (saved_page p) ≡ length p.order
  units_of = ap (λ (xs : List ℕ). get_or xs 1 0) is

  records-of : record_count (saved_page p) ≡ pair_count (map_of p)
  records-of = ap (λ (xs : List ℕ). word xs 2) is ∙ mod-add-div (pair_count (map_of p)) 256

  all : sum p.order (λ u. length (ascending (p.pair u))) ≡ pair_count (map_of p)
  all = listeners-sum (map_of p) law.sound p.order law.orders

  enough : 1 + size (saved_page p) p.pair p.order ≤ suc (record_count (saved_page p))
  enough = omega (arith, all, records-of)

  heads : Heads p.pair (saved_page p) 0 1 p.order
  heads = heads-stored p.pair (saved_page p) (head_bytes (length p.order) (pair_count (map_of p))) (pairing_bytes p.pair 1 p.order) 0 1 p.order is refl

  links : AllLinks p.pair (saved_page p) 1 p.order
  links =
      let head = head_bytes (length p.order) (pair_count (map_of p)) in
      let us = unit_bytes p.pair 1 p.order in
      let ps = pairing_bytes p.pair 1 p.order in
      all-links-stored p.pair (saved_page p) (head ++ us) [] 1 p.order (omega arith) (is ∙ sym (append_assoc head us ps) ∙ ap (λ (xs : List ℕ). (head ++ us) ++ xs) (sym (append-nil ps)))
      (let e = length-append head us in let f = length-units p.pair 1 p.order in omega (arith, units_of))

  order-back : page_units (saved_page p) ≡ p.order
  order-back = units-all (saved_page p) ∙ ap (λ (n : ℕ). each (unit_in (saved_page p)) (numbers 0 n)) units_of ∙ units-back (saved_page p) p.pair 0 1 p.order heads

  chains-are : chains (saved_page p) (numbers 0 (unit_count (saved_page p))) ≡ numbers 1 (record_count (saved_page p))
  chains-are =
      ap (λ (n : ℕ). chains (saved_page p) (numbers 0 n)) units_of ∙ chains-back (saved_page p) p.pair 0 1 p.order (omega arith) enough heads links ∙ ap (numbers 1) (all ∙ sym records-of)

  listener-on : (u l : ℕ) → On l (ascending (p.pair u)) → T (p.pair u l)
  unfolding ascending
  listener-on u l o = ((on-picked (p.pair u) (numbers 1 255) l).0 o).1

  form : has_form (saved_page p) ≡ true
  form =
      let long = saved-length p law.sound law.orders in
      let four : 4 ≤ length (saved_page p) = omega arith in
      let whole : length (saved_page p) ≡ 4 + 3 * unit_count (saved_page p) + 3 * record_count (saved_page p) = omega (arith, units_of, records-of) in
      let most : record_count (saved_page p) ≤ 8000 = omega (arith, records-of) in
      and_from _ _ (le-leb _ _ four) (and_from _ _ (eq-eqb _ _ whole) (and_from _ _ (eq-eqb _ _ (ap (λ (xs : List ℕ). get_or xs 0 0) is)) (le-leb _ _ most)))

  right : (r : ℕ) → 1 ≤ r → r ≤ record_count (saved_page p) → Right (saved_page p) r
  right r low high =
      let x = record-back (saved_page p) p.pair 1 p.order (omega arith) links r low (omega (arith, all, records-of)) in
      record {
        low = low;
        high = high;
        next = omega (arith, x.3, all, records-of);
        listener = subst (On (listener_in (saved_page p) r)) (sym order-back) (law.orders.every _ (law.sound.to x.0 _ (listener-on x.0 _ x.2)));
      }

  of : (j : ℕ) → j < unit_count (saved_page p) → (u : ℕ) × (start : ℕ) × On u p.order × OfUnit (saved_page p) p.pair j u start
  of j h = unit-back (saved_page p) p.pair 0 1 p.order (omega arith) enough heads links j (omega arith) (omega (arith, units_of))

  once-list : (f : ℕ → Bool) → Once (ascending f)
  unfolding ascending
  once-list f = once-picked f (numbers 1 255) (once-numbers 1 255)

  one : (u : ℕ) → On u p.order → 1 ≤ u
  one u o = law.sound.low u (law.orders.only u o)

  pub saved-parts : Parts (saved_page p)
  saved-parts = record {
    form = form;
    units = λ u o e. let h = one u (subst (On u) order-back o) in omega arith;
    differ = subst Once (sym order-back) law.orders.once;
    records = right;
    firsts = λ i h. (of i h).3.first;
    reached = λ r low high. subst (On r) (sym chains-are) ((on-numbers 1 (record_count (saved_page p)) r).1 (low, omega arith));
    once = subst Once (sym chains-are) (once-numbers 1 (record_count (saved_page p)));
    lists = λ i h. let x = of i h in subst Once (sym x.3.listeners) (once-list (p.pair x.0));
  }

  -- a listener is one of the chain, and no other
  pair-listed : (a b : ℕ) → some (λ u. eqb u a && listed b (ascending (p.pair u))) p.order ≡ p.pair a b
  unfolding ascending
  pair-listed a b = same_tests _ (p.pair a b) there back
    where
      there : T (some (λ u. eqb u a && listed b (ascending (p.pair u))) p.order) → T (p.pair a b)
      there t =
          let s = (some-on (λ u. eqb u a && listed b (ascending (p.pair u))) p.order).0 t in
          let e = eqb→eq s.0 a (and-fst (eqb s.0 a) _ s.2) in
          subst (λ (x : ℕ). T (p.pair x b)) e (listener-on s.0 b ((listed-on b _).0 (and-snd (eqb s.0 a) _ s.2)))

      back : T (p.pair a b) → T (some (λ u. eqb u a && listed b (ascending (p.pair u))) p.order)
      back t =
          let unit = law.sound.to a b t in
          let low = law.sound.low b unit in
          let high = law.sound.high b unit in
          (some-on (λ u. eqb u a && listed b (ascending (p.pair u))) p.order).1
          (a, law.orders.every a (law.sound.from a b t), and_both (eqb a a) _ (passes _ (eq-eqb a a refl)) ((listed-on b _).1 ((on-picked (p.pair a) (numbers 1 255) b).1 ((on-numbers 1 255 b).1 (low, omega arith), t))))

  pair-back : (a b : ℕ) → (page_book (saved_page p)).pair a b ≡ p.pair a b
  pair-back a b =
      paired-all (saved_page p) a b ∙ ap (λ (n : ℕ). paired_by (saved_page p) n a b) units_of ∙ pairs-back (saved_page p) p.pair a b 0 1 p.order (omega arith) enough heads links ∙ pair-listed a b

  pub same-book : page_book (saved_page p) ≡ p
  same-book =
      let orders : (page_book (saved_page p)).order ≡ p.order = page-order (saved_page p) ∙ order-back in
      λ i. record { order = orders i; pair = λ a b. pair-back a b i }

-- a lawful book has no ring, so neither has its page
no-ring : (p : Plain) → Lawful p → has_ring_or_loop p ≡ false
unfolding has_ring_or_loop
no-ring p law = same_tests (has_ring_or_loop p) false ring (λ t. absurd t)
  where
    ring : T (has_ring_or_loop p) → ⊥
    ring t =
        let s = (some-on _ p.order).0 t in
        let q = (some-on _ p.order).0 s.2 in
        let pair = and-fst (p.pair s.0 q.0) _ q.2 in
        ⊎_elim (λ e. law.sound.apart s.0 q.0 pair (eqb→eq _ _ e)) (λ h. (rings-kept-out.by_pairings (map_of p) law.sound).0 law.ringless s.0 q.0 pair (heard-sound (map_of p) law.sound q.0 s.0 h))
        (or-either (eqb s.0 q.0) _ (and-snd (p.pair s.0 q.0) _ q.2))

pub saved-reads-back : SavedReadsBack
saved-reads-back p law few =
    let same = same-book p law few in
    record { lawful = lawful (saved_page p) (saved-parts p law few); same = same; ringless = ap has_ring_or_loop same ∙ no-ring p law }
