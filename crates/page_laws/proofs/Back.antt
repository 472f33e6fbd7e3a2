-- A page that was written reads back: by its records the chains are the numbers in a row.
use Rattle.std.proofs.Common.{◌≡◌, ℕ, zero, suc, ◌+◌, ◌<◌, ◌≤◌, Bool, ◌&&◌, ◌||◌, eqb, List, [], ◌∷◌, ◌++◌, length, sym, refl, ap, ◌∙◌, subst, inl, inr, ⊎_elim, arith}
use Rattle.std.proofs.lemmas.Bool.{cases_eq, cases_lt}
use Rattle.theory.specs.Maps.{listed}
use Rattle.theory.specs.Chains.{On}
use Rattle.theory.specs.Lists.{sum}
use Rattle.plain.specs.Lists.{some, numbers, each}
use Rattle.plain.specs.Pages.{record_count, unit_in, first_of, listener_in, next_of, chain, unit_chain, chains}
use Rattle.plain.specs.Saving.{ascending, next_index}
use Rattle.page_laws.specs.Pairs.{by_unit}
use Rattle.page_laws.proofs.Numbers.{numbers-split}
use Rattle.page_laws.proofs.Follow.{chain_next, chain-end}
use Rattle.page_laws.proofs.Stored.{Links, AllLinks, Heads}

one_more : (at n : ℕ) → numbers (at + 1) n ≡ numbers (suc at) n
one_more at n = let e : at + 1 ≡ suc at = omega arith in ap (λ (k : ℕ). numbers k n) e

module _ (page : List ℕ) where
  pub chain-linked : (fuel at : ℕ) (ls : List ℕ) → 1 ≤ at → Links page at ls → length ls ≤ fuel → chain page fuel (next_index at ls) ≡ numbers at (length ls)
  chain-linked fuel at [] one links enough = chain-end page fuel
  chain-linked zero at (l ∷ ls) one links enough = absurd (omega arith)
  chain-linked (suc fuel) at (l ∷ ls) one links enough =
      chain_next page fuel at (λ e. omega arith) ∙ ap (λ (r : ℕ). at ∷ chain page fuel r) links.1
      ∙ ap (λ (xs : List ℕ). at ∷ xs) (chain-linked fuel (at + 1) ls (omega arith) links.2 (omega arith) ∙ one_more at (length ls))

  pub listeners-linked : (at : ℕ) (ls : List ℕ) → Links page at ls → each (listener_in page) (numbers at (length ls)) ≡ ls
  listeners-linked at [] links = refl
  listeners-linked at (l ∷ ls) links =
      ap (λ (x : ℕ). x ∷ each (listener_in page) (numbers (suc at) (length ls))) links.0
      ∙ ap (λ (xs : List ℕ). l ∷ xs) (ap (each (listener_in page)) (sym (one_more at (length ls))) ∙ listeners-linked (at + 1) ls links.2)

  -- each record of a chain has a listener of it, and leads on within it or nowhere
  pub link-right : (at : ℕ) (ls : List ℕ) → Links page at ls → (r : ℕ) → at ≤ r → r < at + length ls → On (listener_in page r) ls × (next_of page r < at + length ls)
  link-right at [] links r low high = absurd (omega arith)
  link-right at (l ∷ ls) links r low high = ⊎_elim here (λ ne. later ne (link-right (at + 1) ls links.2 r (omega arith) (omega arith))) (cases_eq r at)
    where
      index : (k : ℕ) (xs : List ℕ) → next_index (k + 1) xs < k + length (l ∷ xs)
      index k [] = omega arith
      index k (x ∷ xs) = omega arith

      here : r ≡ at → On (listener_in page r) (l ∷ ls) × (next_of page r < at + length (l ∷ ls))
      here e = (
        inl (ap (listener_in page) e ∙ links.0),
        subst (λ (n : ℕ). n < at + length (l ∷ ls)) (sym (ap (next_of page) e ∙ links.1)) (index at ls),
      )

      later : (r ≡ at → ⊥) → On (listener_in page r) ls × (next_of page r < (at + 1) + length ls) → On (listener_in page r) (l ∷ ls) × (next_of page r < at + length (l ∷ ls))
      later ne rest = (inr rest.0, omega (arith, rest.1))

  -- units in a row, with their chains in a row
  module _ (pair : ℕ → ℕ → Bool) where
    abbrev pub size : List ℕ → ℕ
    size us = sum us (λ u. length (ascending (pair u)))

    pub units-back : (i at : ℕ) (us : List ℕ) → Heads pair page i at us → each (unit_in page) (numbers i (length us)) ≡ us
    units-back i at [] heads = refl
    units-back i at (u ∷ us) heads =
        ap (λ (x : ℕ). x ∷ each (unit_in page) (numbers (suc i) (length us))) heads.0 ∙ ap (λ (xs : List ℕ). u ∷ xs) (units-back (suc i) (at + length (ascending (pair u))) us heads.2)

    -- what holds of each unit record and its chain
    pub record OfUnit (i u at : ℕ) : Type 0 where
      pub unit : unit_in page i ≡ u
      pub first : first_of page i ≤ record_count page
      pub chain : unit_chain page i ≡ numbers at (length (ascending (pair u)))
      pub listeners : each (listener_in page) (unit_chain page i) ≡ ascending (pair u)

    of-unit : (i at : ℕ) (u : ℕ) → 1 ≤ at → at + length (ascending (pair u)) ≤ suc (record_count page) → unit_in page i ≡ u → first_of page i ≡ next_index at (ascending (pair u)) → Links page at (ascending (pair u)) → OfUnit i u at
    unfolding unit_chain
    of-unit i at u one enough unit first links =
        let ls = ascending (pair u) in
        let run = ap (chain page (suc (record_count page))) first ∙ chain-linked (suc (record_count page)) at ls one links (omega arith) in
        record {
          unit = unit;
          first = subst (λ (n : ℕ). n ≤ record_count page) (sym first) (index ls enough);
          chain = run;
          listeners = ap (each (listener_in page)) run ∙ listeners-linked at ls links;
        }
      where
        index : (ls : List ℕ) → at + length ls ≤ suc (record_count page) → next_index at ls ≤ record_count page
        index [] h = omega arith
        index (l ∷ ls) h = omega arith

    pub chains-back : (i at : ℕ) (us : List ℕ) → 1 ≤ at → at + size us ≤ suc (record_count page) → Heads pair page i at us → AllLinks pair page at us → chains page (numbers i (length us)) ≡ numbers at (size us)
    unfolding chains sum
    chains-back i at [] one enough heads links = refl
    chains-back i at (u ∷ us) one enough heads links =
        let n = length (ascending (pair u)) in
        let here = (of-unit i at u one (omega arith) heads.0 heads.1 links.0).chain in
        ap (λ (xs : List ℕ). xs ++ chains page (numbers (suc i) (length us))) here
        ∙ ap (λ (xs : List ℕ). numbers at n ++ xs) (chains-back (suc i) (at + n) us (omega arith) (omega arith) heads.2 links.1) ∙ sym (numbers-split at n (size us))

    -- by a unit record, at its place
    pub unit-back : (i at : ℕ) (us : List ℕ) → 1 ≤ at → at + size us ≤ suc (record_count page) → Heads pair page i at us → AllLinks pair page at us → (j : ℕ) → i ≤ j → j < i + length us →
        (u : ℕ) × (start : ℕ) × On u us × OfUnit j u start
    unfolding sum
    unit-back i at [] one enough heads links j low high = absurd (omega arith)
    unit-back i at (u ∷ us) one enough heads links j low high =
        ⊎_elim (λ (e : j ≡ i). (u, at, inl refl, subst (λ (k : ℕ). OfUnit k u at) (sym e) (of-unit i at u one (omega arith) heads.0 heads.1 links.0)))
        (λ ne. let r = unit-back (suc i) (at + length (ascending (pair u))) us (omega arith) (omega arith) heads.2 links.1 j (omega arith) (omega arith) in (r.0, r.1, inr r.2, r.3)) (cases_eq j i)

    -- by a pairing record
    pub record-back : (at : ℕ) (us : List ℕ) → 1 ≤ at → AllLinks pair page at us → (r : ℕ) → at ≤ r → r < at + size us → (u : ℕ) × On u us × On (listener_in page r) (ascending (pair u)) × (next_of page r < at + size us)
    unfolding sum
    record-back at [] one links r low high = absurd (omega arith)
    record-back at (u ∷ us) one links r low high =
        let n = length (ascending (pair u)) in
        ⊎_elim (λ (h : r < at + n). let x = link-right at (ascending (pair u)) links.0 r low h in (u, inl refl, x.0, omega (arith, x.1)))
        (λ (h : at + n ≤ r). let x = record-back (at + n) us (omega arith) links.1 r h (omega arith) in (x.0, inr x.1, x.2, omega (arith, x.3))) (cases_lt r (at + n))

    pub pairs-back : (a b i at : ℕ) (us : List ℕ) → 1 ≤ at → at + size us ≤ suc (record_count page) → Heads pair page i at us → AllLinks pair page at us →
        some (by_unit page a b) (numbers i (length us)) ≡ some (λ u. eqb u a && listed b (ascending (pair u))) us
    unfolding sum
    pairs-back a b i at [] one enough heads links = refl
    pairs-back a b i at (u ∷ us) one enough heads links =
        let here = of-unit i at u one (omega arith) heads.0 heads.1 links.0 in
        let rest = some (by_unit page a b) (numbers (suc i) (length us)) in
        ap (λ (x : ℕ). (eqb x a && listed b (each (listener_in page) (unit_chain page i))) || rest) here.unit ∙ ap (λ (xs : List ℕ). (eqb u a && listed b xs) || rest) here.listeners
        ∙ ap (λ (t : Bool). (eqb u a && listed b (ascending (pair u))) || t) (pairs-back a b (suc i) (at + length (ascending (pair u))) us (omega arith) (omega arith) heads.2 links.1)
