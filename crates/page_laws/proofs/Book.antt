-- What a lawful page says is a plain book: its pairings lead between its units, and without a ring it is lawful.
use Rattle.std.proofs.Common.{◌≡◌, ℕ, zero, suc, ◌<◌, ◌≤◌, Bool, true, false, cond, ◌||◌, T, eqb, ◌≢◌, ◌⊎◌, List, [], ◌∷◌, sym, refl, subst, inl, inr, ⊎_elim, arith, eqb→eq}
use Rattle.std.proofs.lemmas.Bool.{cases_eq, eq-eqb, ne_eqb, both_ways}
use Rattle.theory.specs.Maps.{Sound}
use Rattle.theory.specs.Chains.{On}
use Rattle.theory.specs.Hearing.{is_heard}
use Rattle.theory.specs.Ranks.{Orders}
use Rattle.theory.proofs.Tests.{and-fst, and-snd, and_both, or-either, or_fst, or_snd, passes, passed, same_tests}
use Rattle.theory.proofs.Lists.{listed-on}
use Rattle.theory.proofs.Warshall.{heard-complete}
use Rattle.theory.proofs.Rings.{rings-kept-out}
use Rattle.plain.specs.Lists.{numbers, each}
use Rattle.plain.specs.Plain.{map_of, Lawful}
use Rattle.plain.specs.Pages.{unit_count, record_count, unit_in, first_of, listener_in, next_of, page_units, chain, unit_chain, page_book, has_ring_or_loop}
use Rattle.plain.proofs.Some.{some-on}
use Rattle.page_laws.specs.Parts.{Parts}
use Rattle.page_laws.specs.Pairs.{by_unit}
use Rattle.page_laws.proofs.Numbers.{on-numbers}
use Rattle.page_laws.proofs.Units.{unit-on}
use Rattle.page_laws.proofs.Rows.{paired-all}

each_on : (f : ℕ → ℕ) (xs : List ℕ) (y : ℕ) → On y (each f xs) → (x : ℕ) × On x xs × (y ≡ f x)
each_on f [] y o = absurd o
each_on f (x ∷ xs) y (inl e) = (x, inl refl, e)
each_on f (x ∷ xs) y (inr o) = let r = each_on f xs y o in (r.0, inr r.1, r.2)

one : (k : ℕ) → k ≢ 0 → 1 ≤ k
one zero n0 = absurd (n0 refl)
one (suc k) n0 = omega arith

pub page-order : (page : List ℕ) → (page_book page).order ≡ page_units page
unfolding page_book
page-order page = refl

module _ (page : List ℕ) (p : Parts page) where
  -- the records of a chain are records of the page
  chain-within : (fuel f r : ℕ) → f ≤ record_count page → On r (chain page fuel f) → (1 ≤ r) × (r ≤ record_count page)
  unfolding chain
  chain-within zero f r h o = absurd o
  chain-within (suc fuel) f r h o = go (cases_eq f 0) (chain-within fuel)
    where
      step : f ≢ 0 → ((g k : ℕ) → g ≤ record_count page → On k (chain page fuel g) → (1 ≤ k) × (k ≤ record_count page)) → On r (f ∷ chain page fuel (next_of page f)) → (1 ≤ r) × (r ≤ record_count page)
      step ne ih (inl e) = let low = one f ne in (omega arith, omega arith)
      step ne ih (inr q) = ih (next_of page f) r (p.records f (one f ne) h).next q

      go : (f ≡ 0) ⊎ (f ≡ 0 → ⊥) → ((g k : ℕ) → g ≤ record_count page → On k (chain page fuel g) → (1 ≤ k) × (k ≤ record_count page)) → (1 ≤ r) × (r ≤ record_count page)
      go (inl e) ih = absurd (subst (λ (n : ℕ). On r (cond (eqb n 0) [] (n ∷ chain page fuel (next_of page n)))) e o)
      go (inr ne) ih = step ne ih (subst (λ (b : Bool). On r (cond b [] (f ∷ chain page fuel (next_of page f)))) (ne_eqb f 0 ne) o)

  -- a pairing has its record
  by-record : (a b : ℕ) → T ((page_book page).pair a b) → (j : ℕ) × (j < unit_count page) × (unit_in page j ≡ a) × On b (each (listener_in page) (unit_chain page j))
  by-record a b t =
      let s = (some-on (by_unit page a b) (numbers 0 (unit_count page))).0 (subst T (paired-all page a b) t) in
      let test = s.2 in
      let within = ((on-numbers 0 (unit_count page) s.0).0 s.1).1 in (
        s.0,
        omega arith,
        eqb→eq _ _ (and-fst (eqb (unit_in page s.0) a) _ test),
        (listed-on b _).0 (and-snd (eqb (unit_in page s.0) a) _ test),
      )

  pub page-from : (a b : ℕ) → T ((page_book page).pair a b) → On a (page_units page)
  page-from a b t = let r = by-record a b t in subst (λ (u : ℕ). On u (page_units page)) r.2 (unit-on page r.0 r.1)

  pub page-to : (a b : ℕ) → T ((page_book page).pair a b) → On b (page_units page)
  unfolding unit_chain
  page-to a b t =
      let r = by-record a b t in
      let e = each_on (listener_in page) (unit_chain page r.0) b r.3 in
      let w = chain-within (suc (record_count page)) (first_of page r.0) e.0 (p.firsts r.0 r.1) e.1 in
      subst (λ (u : ℕ). On u (page_units page)) (sym e.2) (p.records e.0 w.0 w.1).listener

  module _ (high : (u : ℕ) → On u (page_units page) → u ≤ 255) where
    unit-there : (u : ℕ) → T ((map_of (page_book page)).unit u) → On u (page_units page)
    unit-there u t = subst (On u) (page-order page) ((listed-on u (page_book page).order).0 t)

    there-unit : (u : ℕ) → On u (page_units page) → T ((map_of (page_book page)).unit u)
    there-unit u o = (listed-on u (page_book page).order).1 (subst (On u) (sym (page-order page)) o)

    pub page-sound : ((a : ℕ) → On a (page_units page) → (page_book page).pair a a ≡ false) → Sound (map_of (page_book page))
    page-sound clear = record {
      low = λ u t. one u (p.units u (unit-there u t));
      high = λ u t. high u (unit-there u t);
      from = λ a b t. there-unit a (page-from a b t);
      to = λ a b t. there-unit b (page-to a b t);
      apart = λ a b t e. both_ways _ (clear a (page-from a b t)) (passed _ (subst (λ (x : ℕ). T ((page_book page).pair a x)) (sym e) t));
    }

    pub page-orders : Orders (map_of (page_book page)) (page_units page)
    page-orders = record { every = unit-there; only = there-unit; once = p.differ }

    -- what makes a ring, and what shows that there is none
    pub ring-found : (a b : ℕ) → T ((page_book page).pair a b) → T (eqb a b || is_heard (map_of (page_book page)) b a) → has_ring_or_loop (page_book page) ≡ true
    unfolding has_ring_or_loop
    ring-found a b t c =
        let order = (page_book page).order in
        let on-a = subst (On a) (sym (page-order page)) (page-from a b t) in
        let on-b = subst (On b) (sym (page-order page)) (page-to a b t) in
        passed _ ((some-on _ order).1 (a, on-a, (some-on _ order).1 (b, on-b, and_both ((page_book page).pair a b) _ t c)))

    pub no-ring-found : ((a : ℕ) → On a (page_units page) → (page_book page).pair a a ≡ false) → ((a b : ℕ) → (page_book page).pair a b ≡ true → is_heard (map_of (page_book page)) b a ≡ false) →
        has_ring_or_loop (page_book page) ≡ false
    unfolding has_ring_or_loop
    no-ring-found clear far = same_tests (has_ring_or_loop (page_book page)) false ring (λ t. absurd t)
      where
        ring : T (has_ring_or_loop (page_book page)) → ⊥
        ring t =
            let order = (page_book page).order in
            let s = (some-on _ order).0 t in
            let q = (some-on _ order).0 s.2 in
            let a = s.0 in
            let b = q.0 in
            let pair = and-fst ((page_book page).pair a b) _ q.2 in
            ⊎_elim (λ e. both_ways _ (clear a (page-from a b pair)) (passed _ (subst (λ (x : ℕ). T ((page_book page).pair a x)) (sym (eqb→eq a b e)) pair)))
            (λ h. both_ways _ (far a b (passed _ pair)) (passed _ h)) (or-either (eqb a b) _ (and-snd ((page_book page).pair a b) _ q.2))

    -- a page without a ring says a lawful book
    pub page-lawful : has_ring_or_loop (page_book page) ≡ false → Lawful (page_book page)
    page-lawful none = record {
      sound = sound;
      orders = subst (Orders (map_of (page_book page))) (sym (page-order page)) page-orders;
      ringless = (rings-kept-out.by_pairings (map_of (page_book page)) sound).1 (λ a b t h. both_ways _ none (ring-found a b t (or_snd (eqb a b) _ (heard-complete (map_of (page_book page)) sound b a h))));
    }
      where
        clear : (a : ℕ) → On a (page_units page) → (page_book page).pair a a ≡ false
        clear a o = same_tests ((page_book page).pair a a) false (λ t. both_ways _ none (ring-found a a t (or_fst (eqb a a) _ (passes _ (eq-eqb a a refl))))) (λ t. absurd t)

        sound : Sound (map_of (page_book page))
        sound = page-sound clear
