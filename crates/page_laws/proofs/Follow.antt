-- Following the chain of one unit: what is seen so far is the front of the chain, so what breaks a rule on the way breaks it for the page.
use Rattle.std.proofs.Common.{◌≡◌, ℕ, zero, suc, ◌+◌, ◌-◌, ◌<◌, ◌≤◌, Bool, true, false, not, ◌||◌, eqb, leb, ◌≢◌, List, [], ◌∷◌, ◌++◌, length, get_or, set, sym, refl, ap, ◌∙◌, subst, inl, ⊎_elim, append_assoc, append-nil, arith, length-append}
use Rattle.std.proofs.lemmas.List.{get_or-set_same, get_or-set_other, map-append}
use Rattle.std.proofs.lemmas.Bool.{cases_eq, eq-eqb, ne_eqb, or_left, both_ways, and_cases, and_parts, not-false, not-true, not_from_true, leb-true, leb-false}
use Rattle.theory.specs.Maps.{listed}
use Rattle.theory.specs.Chains.{On}
use Rattle.theory.specs.Ranks.{Once}
use Rattle.theory.specs.Counts.{count}
use Rattle.theory.proofs.Counting.{count-falls}
use Rattle.theory.proofs.Distinct.{on-from-listed, off-from-listed, at_most, listed-more}
use Rattle.plain.specs.Lists.{numbers, each}
use Rattle.plain.specs.Pages.{unit_count, record_count, first_of, listener_in, next_of, page_units, chain, unit_chain, chains}
use Rattle.page_laws.specs.Parts.{Right, Parts, Marked, Followed}
use Rattle.page_laws.specs.Along.{Trace, Along}
use Rattle.page_laws.specs.Fresh.{fresh_record}
use Rattle.page_laws.proofs.Numbers.{numbers_more, on-append, once-append}

-- a list with one more at the end
pub once_more : (xs : List ℕ) (x : ℕ) → Once xs → (On x xs → ⊥) → Once (xs ++ x ∷ [])
once_more xs x once far = (once-append xs (x ∷ [])).1 (once, (λ o. o, tt), λ y a b. ⊎_elim (λ e. far (subst (λ (z : ℕ). On z xs) e a)) (λ o. o) b)

module _ (page : List ℕ) where
  trace-more : (f : ℕ) (list : List ℕ) (r : ℕ) → Trace page f list r → r ≢ 0 → Trace page f (list ++ r ∷ []) (next_of page r)
  trace-more f [] r t ne = (sym t, λ e. ne (sym t ∙ e), ap (next_of page) t)
  trace-more f (x ∷ xs) r t ne = (t.0, t.1, trace-more (next_of page f) xs r t.2 ne)

  pub chain_next : (fuel r : ℕ) → r ≢ 0 → chain page (suc fuel) r ≡ r ∷ chain page fuel (next_of page r)
  unfolding chain
  chain_next fuel r ne = rw (ne_eqb r 0 ne)

  pub chain-end : (fuel : ℕ) → chain page fuel 0 ≡ []
  unfolding chain
  chain-end zero = refl
  chain-end (suc fuel) = refl

  pub trace-chain : (f : ℕ) (list : List ℕ) (r fuel : ℕ) → Trace page f list r → chain page (length list + fuel) f ≡ list ++ chain page fuel r
  trace-chain f [] r fuel t = ap (λ (n : ℕ). chain page n f) (omega arith) ∙ ap (chain page fuel) t
  trace-chain f (x ∷ xs) r fuel t =
      ap (λ (n : ℕ). chain page n f) (omega arith) ∙ chain_next (length xs + fuel) f t.1
      ∙ ap (λ (ys : List ℕ). f ∷ ys) (trace-chain (next_of page f) xs r fuel t.2) ∙ ap (λ (y : ℕ). y ∷ (xs ++ chain page fuel r)) (sym t.0)

  pub chains-append : (xs ys : List ℕ) → chains page (xs ++ ys) ≡ chains page xs ++ chains page ys
  unfolding chains
  chains-append [] ys = refl
  chains-append (x ∷ xs) ys = ap (λ (zs : List ℕ). unit_chain page x ++ zs) (chains-append xs ys) ∙ sym (append_assoc (unit_chain page x) (chains page xs) (chains page ys))

  chains-one : (i : ℕ) → chains page (i ∷ []) ≡ unit_chain page i
  unfolding chains
  chains-one i = append-nil (unit_chain page i)

  pub chains-more : (i : ℕ) → chains page (numbers 0 (i + 1)) ≡ chains page (numbers 0 i) ++ unit_chain page i
  chains-more i =
      let up : i + 1 ≡ suc i = omega arith in
      let here : 0 + i ≡ i = omega arith in
      ap (λ (n : ℕ). chains page (numbers 0 n)) up ∙ ap (chains page) (numbers_more 0 i) ∙ ap (λ (n : ℕ). chains page (numbers 0 i ++ n ∷ [])) here
      ∙ chains-append (numbers 0 i) (i ∷ []) ∙ ap (λ (zs : List ℕ). chains page (numbers 0 i) ++ zs) (chains-one i)

  -- the chains of the first units are the front of all
  chains-front : (i more : ℕ) → (rest : List ℕ) × (chains page (numbers 0 (i + more)) ≡ chains page (numbers 0 i) ++ rest)
  chains-front i zero = let same : i + zero ≡ i = omega arith in ([], ap (λ (n : ℕ). chains page (numbers 0 n)) same ∙ sym (append-nil (chains page (numbers 0 i))))
  chains-front i (suc more) =
      let r = chains-front i more in
      let up : i + suc more ≡ (i + more) + 1 = omega arith in (
        r.0 ++ unit_chain page (i + more),
        ap (λ (n : ℕ). chains page (numbers 0 n)) up ∙ chains-more (i + more) ∙ ap (λ (zs : List ℕ). zs ++ unit_chain page (i + more)) r.1
            ∙ append_assoc (chains page (numbers 0 i)) r.0 (unit_chain page (i + more)),
      )

  module _ (i : ℕ) (seen : List Bool) (row : ℕ → Bool) (r : ℕ) (list : List ℕ) (along : Along page i seen row r list) where
    -- no more records are behind than there are
    few : length list ≤ record_count page
    few =
        let m = along.marked in
        let all = at_most (record_count page) (chains page (numbers 0 i) ++ list) m.once (λ u o. (m.right u o).low) (λ u o. (m.right u o).high) in
        omega (arith, length-append (chains page (numbers 0 i)) list)

    whole : (fuel : ℕ) → suc (record_count page) ≡ length list + fuel → unit_chain page i ≡ list ++ chain page fuel r
    unfolding unit_chain
    whole fuel e = ap (λ (n : ℕ). chain page n (first_of page i)) e ∙ trace-chain (first_of page i) list r fuel along.trace

    -- what lies ahead of a record that is no end
    ahead : r ≢ 0 → (rest : List ℕ) × (unit_chain page i ≡ list ++ r ∷ rest)
    ahead ne =
        let h = few in
        let fuel = record_count page - length list in
        (chain page fuel (next_of page r), whole (suc fuel) (omega arith) ∙ ap (λ (zs : List ℕ). list ++ zs) (chain_next fuel r ne))

    -- a record that was seen is reached twice
    pub seen_twice : i < unit_count page → r ≢ 0 → get_or seen r false ≡ true → Parts page → ⊥
    seen_twice h ne e p =
        let o = on-from-listed r (chains page (numbers 0 i) ++ list) (sym (along.marked.marks r along.small) ∙ e) in
        let a = ahead ne in
        let f = chains-front (i + 1) (unit_count page - (i + 1)) in
        let sum : unit_count page ≡ (i + 1) + (unit_count page - (i + 1)) = omega arith in
        let all : chains page (numbers 0 (unit_count page)) ≡ ((chains page (numbers 0 i) ++ list) ++ r ∷ a.0) ++ f.0 =
        ap (λ (n : ℕ). chains page (numbers 0 n)) sum ∙ f.1
        ∙ ap (λ (zs : List ℕ). zs ++ f.0) (chains-more i ∙ ap (λ (zs : List ℕ). chains page (numbers 0 i) ++ zs) a.1 ∙ sym (append_assoc (chains page (numbers 0 i)) list (r ∷ a.0))) in
        let once = ((once-append _ f.0).0 (subst Once all p.once)).0 in
        ((once-append (chains page (numbers 0 i) ++ list) (r ∷ a.0)).0 once).2 r o (inl refl)

    -- a listener that was met stands twice
    pub met-twice : i < unit_count page → r ≢ 0 → row (listener_in page r) ≡ true → Parts page → ⊥
    met-twice h ne e p =
        let l = listener_in page r in
        let o = on-from-listed l (each (listener_in page) list) (sym (along.listeners l) ∙ e) in
        let a = ahead ne in
        let all = ap (each (listener_in page)) a.1 ∙ map-append (listener_in page) list (r ∷ a.0) in
        ((once-append (each (listener_in page) list) (l ∷ each (listener_in page) a.0)).0 (subst Once all (p.lists i h))).2 l o (inl refl)

    pub along-more : (more : List Bool) (wider : ℕ → Bool) → r ≢ 0 → record_count page < length seen → get_or seen r false ≡ false → next_of page r ≤ record_count page →
        listed (listener_in page r) (page_units page) ≡ true → row (listener_in page r) ≡ false → more ≡ set seen r true → ((k : ℕ) → wider k ≡ (eqb k (listener_in page r) || row k)) →
        Along page i more wider (next_of page r) (list ++ r ∷ [])
    along-more more wider ne long fresh next unit new written wide = record {
      trace = trace-more (first_of page i) list r along.trace ne;
      small = next;
      marked = record {
        marks = λ k h. ⊎_elim (here k h) (other k h) (cases_eq k r);
        right = λ k o. ⊎_elim (along.marked.right k) (λ q. ⊎_elim (λ e. subst (Right page) (sym e) right) (λ z. absurd z) q) ((on-append k before (r ∷ [])).0 (subst (On k) joined o));
        once = subst Once (sym joined) (once_more before r along.marked.once (off-from-listed r before (sym (along.marked.marks r along.small) ∙ fresh)));
      };
      listeners = λ k. wide k ∙ ap (λ (b : Bool). eqb k (listener_in page r) || b) (along.listeners k) ∙ sym (listed-more k (each (listener_in page) list) (listener_in page r)) ∙ ap (listed k) (sym eached);
      differ = subst Once (sym eached) (once_more (each (listener_in page) list) (listener_in page r) along.differ (off-from-listed _ _ (sym (along.listeners (listener_in page r)) ∙ new)));
    }
      where
        before : List ℕ
        before = chains page (numbers 0 i) ++ list

        joined : chains page (numbers 0 i) ++ (list ++ r ∷ []) ≡ (chains page (numbers 0 i) ++ list) ++ r ∷ []
        joined = sym (append_assoc (chains page (numbers 0 i)) list (r ∷ []))

        eached : each (listener_in page) (list ++ r ∷ []) ≡ each (listener_in page) list ++ listener_in page r ∷ []
        eached = map-append (listener_in page) list (r ∷ [])

        one : (k : ℕ) → k ≢ 0 → 1 ≤ k
        one zero n0 = absurd (n0 refl)
        one (suc k) n0 = omega arith

        right : Right page r
        right = record { low = one r ne; high = along.small; next = next; listener = on-from-listed _ _ unit }

        same : (k : ℕ) → listed k (chains page (numbers 0 i) ++ (list ++ r ∷ [])) ≡ (eqb k r || listed k (chains page (numbers 0 i) ++ list))
        same k = ap (listed k) joined ∙ listed-more k (chains page (numbers 0 i) ++ list) r

        here : (k : ℕ) → k ≤ record_count page → k ≡ r → get_or more k false ≡ listed k (chains page (numbers 0 i) ++ (list ++ r ∷ []))
        here k h e =
            ap (λ (bs : List Bool). get_or bs k false) written ∙ ap (λ (n : ℕ). get_or (set seen r true) n false) e ∙ get_or-set_same seen r true false (let s = along.small in omega arith)
            ∙ sym (same k ∙ or_left (eqb k r) _ (eq-eqb k r e))

        other : (k : ℕ) → k ≤ record_count page → (k ≡ r → ⊥) → get_or more k false ≡ listed k (chains page (numbers 0 i) ++ (list ++ r ∷ []))
        other k h far =
            ap (λ (bs : List Bool). get_or bs k false) written ∙ get_or-set_other seen r k true false far ∙ along.marked.marks k h
            ∙ sym (same k ∙ ap (λ (b : Bool). b || listed k (chains page (numbers 0 i) ++ list)) (ne_eqb k r far))

    -- at the end of the chain
    ended : r ≡ 0 → unit_chain page i ≡ list
    ended e =
        let h = few in
        let fuel = suc (record_count page) - length list in
        whole fuel (omega arith) ∙ ap (λ (n : ℕ). list ++ chain page fuel n) e ∙ ap (λ (zs : List ℕ). list ++ zs) (chain-end fuel) ∙ append-nil list

    pub along-done : (earlier : List Bool) → Followed page i earlier → first_of page i ≤ record_count page → r ≡ 0 →
        Followed page (i + 1) seen × ((k : ℕ) → row k ≡ listed k (each (listener_in page) (unit_chain page i)))
    along-done earlier f first e =
        let is = ended e in (
          record {
            marked = subst (Marked page seen) (sym (chains-more i ∙ ap (λ (zs : List ℕ). chains page (numbers 0 i) ++ zs) is)) along.marked;
            firsts = λ j h. ⊎_elim (λ (q : j ≡ i). subst (λ (n : ℕ). first_of page n ≤ record_count page) (sym q) first) (λ q. f.firsts j (below j h q)) (cases_eq j i);
            lists = λ j h. ⊎_elim (λ (q : j ≡ i). subst (λ (n : ℕ). Once (each (listener_in page) (unit_chain page n))) (sym q) (subst (λ (zs : List ℕ). Once (each (listener_in page) zs)) (sym is) along.differ)) (λ q. f.lists j (below j h q)) (cases_eq j i);
          },
          λ k. along.listeners k ∙ ap (λ (zs : List ℕ). listed k (each (listener_in page) zs)) (sym is),
        )
      where
        below : (j : ℕ) → j < i + 1 → (j ≡ i → ⊥) → j < i
        below j h q = omega arith

  -- before the first record
  pub along-start : (i : ℕ) (seen : List Bool) (row : ℕ → Bool) → Followed page i seen → first_of page i ≤ record_count page → ((k : ℕ) → row k ≡ false) → Along page i seen row (first_of page i) []
  along-start i seen row f first none = record {
    trace = refl;
    small = first;
    marked = subst (Marked page seen) (sym (append-nil (chains page (numbers 0 i)))) f.marked;
    listeners = none;
    differ = tt;
  }

-- a record that may not follow breaks a rule
pub stuck : (page : List ℕ) (i : ℕ) (seen : List Bool) (row : ℕ → Bool) (r : ℕ) (list : List ℕ) → Along page i seen row r list → (units : List ℕ) → units ≡ page_units page →
    i < unit_count page → r ≢ 0 → fresh_record page units seen row r ≡ false → Parts page → ⊥
stuck page i seen row r list along units is h ne e p =
    ⊎_elim (λ a. seen_twice page i seen row r list along h ne (not-false _ a) p)
    (λ a. ⊎_elim (λ b. let next = right.next in omega (arith, leb-false _ _ b))
    (λ b. ⊎_elim (λ d. off-from-listed (listener_in page r) units d (subst (On (listener_in page r)) (sym is) right.listener))
    (λ d. met-twice page i seen row r list along h ne (not-false _ d) p)
    (and_cases (listed (listener_in page r) units) _ b)) (and_cases (leb (next_of page r) (record_count page)) _ a)) (and_cases (not (get_or seen r false)) _ e)
  where
    one : (k : ℕ) → k ≢ 0 → 1 ≤ k
    one zero n0 = absurd (n0 refl)
    one (suc k) n0 = omega arith

    right : Right page r
    right = p.records r (one r ne) along.small

pub followed-more : (page : List ℕ) (i : ℕ) (seen : List Bool) (row : ℕ → Bool) (r : ℕ) (list : List ℕ) → Along page i seen row r list → (units : List ℕ) → units ≡ page_units page →
    (more : List Bool) (wider : ℕ → Bool) → r ≢ 0 → record_count page < length seen → fresh_record page units seen row r ≡ true →
    more ≡ set seen r true → ((k : ℕ) → wider k ≡ (eqb k (listener_in page r) || row k)) → Along page i more wider (next_of page r) (list ++ r ∷ [])
followed-more page i seen row r list along units is more wider ne long e written wide =
    let a = and_parts (not (get_or seen r false)) _ e in
    let b = and_parts (leb (next_of page r) (record_count page)) _ a.1 in
    let d = and_parts (listed (listener_in page r) units) _ b.1 in
    along-more page i seen row r list along more wider ne long (not-true _ a.0) (leb-true _ _ b.0) (ap (listed (listener_in page r)) (sym is) ∙ d.0) (not-true _ d.1) written wide

-- each record that follows brings a new listener
pub met-falls : (page : List ℕ) (units : List ℕ) (seen : List Bool) (row wider : ℕ → Bool) (r : ℕ) → listener_in page r < 256 → fresh_record page units seen row r ≡ true →
    ((k : ℕ) → wider k ≡ (eqb k (listener_in page r) || row k)) → count (λ k. not (wider k)) < count (λ k. not (row k))
met-falls page units seen row wider r small e wide =
    let a = and_parts (not (get_or seen r false)) _ e in
    let b = and_parts (leb (next_of page r) (record_count page)) _ a.1 in
    let d = and_parts (listed (listener_in page r) units) _ b.1 in
    count-falls (λ k. not (wider k)) (λ k. not (row k)) (listener_in page r) small
    (λ k t. kept (wider k) (eqb k (listener_in page r)) (row k) (wide k) t)
    (not_from_true _ (wide (listener_in page r) ∙ or_left _ _ (eq-eqb (listener_in page r) _ refl))) d.1
  where
    kept : (w q o : Bool) → w ≡ (q || o) → not w ≡ true → not o ≡ true
    kept w true o f t = absurd (both_ways w (not-true w t) f)
    kept w false o f t = ap not (sym f) ∙ t
