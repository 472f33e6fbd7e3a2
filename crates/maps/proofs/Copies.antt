-- A map goes into a store pairing by pairing: none is refused.
use Rattle.std.proofs.Common.{◌≡◌, ℕ, ◌+◌, true, ◌<◌, ◌≤◌, false, ◌&&◌, ◌||◌, eqb, ltb, List, [], ◌∷◌, ◌++◌, refl, ap, ap₂, ◌∙◌, inl, inr, Some, None, Option, sym, subst, arith}
use Rattle.std.proofs.lemmas.Bool.{cases_eq, eq-eqb, ne_eqb, le-ltb, and_left, and_right, and_parts, or_from}
use Rattle.std.proofs.lemmas.Bool.Decides.{nat_tests}
use Rattle.theory.specs.Maps.{Map, Sound, listed, with_unit, with_pair}
use Rattle.theory.proofs.Maps.{same_map}
use Rattle.theory.proofs.Distinct.{listed-more}
use Rattle.maps.specs.Copies.{unpaired, rows_below}
use Rattle.theory.specs.Counts.{pair_count}
use Rattle.theory.proofs.Tests.{passes, passed}
use Rattle.theory.proofs.Counting.{pair-count-falls}
use Rattle.maps.specs.Changes.{put_cause, join_cause}
use Rattle.maps.specs.declared.fault.StoreFault.{StoreFault}

-- the units on the list, with no pairing
abbrev pub units_on : List ℕ → Map
units_on us = record { unit = λ k. listed k us; pair = λ x y. false }

-- the pairings that lead from units below a, and from a to the units on the list
abbrev pub rows_on : ℕ → List ℕ → Map → Map
rows_on a bs m = record { unit = m.unit; pair = λ x y. (ltb x a || (eqb x a && listed y bs)) && m.pair x y }

-- the pairing to a listener b that is not on the list is not there yet, so that there is room for it
pub row-granted : (m : Map) → Sound m → (n : Map) (a room b : ℕ) (bs : List ℕ) → n ≡ rows_on a bs m → pair_count m ≤ room
    → (m.pair a b ≡ true) × (listed b bs ≡ false) → join_cause n room a b ≡ None
row-granted m sound n a room b bs is fits (paired, fresh) =
    let P : Map → Type 0 = λ x. join_cause x room a b ≡ None in
    let on = passes (m.pair a b) paired in
    let ua = sound.from a b on in
    let ub = sound.to a b on in
    let ha = sound.high a ua in
    let hb = sound.high b ub in
    let free : (rows_on a bs m).pair a b ≡ false = and_left _ (m.pair a b) (or_from (ltb a a) _ (le-ltb a a (omega arith)) (and_right (eqb a a) (listed b bs) fresh)) in
    let fewer : pair_count (rows_on a bs m) < pair_count m = pair-count-falls (rows_on a bs m) m a b (omega arith) (omega arith) (λ x y t. (and_parts (ltb x a || (eqb x a && listed y bs)) (m.pair x y) t).1) free paired in
    let full : eqb (pair_count (rows_on a bs m)) room ≡ false = ne_eqb (pair_count (rows_on a bs m)) room (λ e. omega arith) in
    let same = ne_eqb a b (sound.apart a b on) in
    let a-stands = passed (m.unit a) ua in
    let b-stands = passed (m.unit b) ub in
    subst P (sym is) (grind (arith, nat_tests))

-- a unit that is not on the list is not there yet
pub unit-granted : (m : Map) → Sound m → (n : Map) (u : ℕ) (us : List ℕ) → n ≡ units_on us → (m.unit u ≡ true) × (listed u us ≡ false) → put_cause n u ≡ None
unit-granted m sound n u us is (stands, fresh) =
    let P : Map → Type 0 = λ x. put_cause x u ≡ None in
    let low = sound.low u (passes (m.unit u) stands) in
    subst P (sym is) (grind (arith, nat_tests))

row-here : (a b : ℕ) (bs : List ℕ) (m : Map) → m.pair a b ≡ true → (x y : ℕ) → (with_pair a b (rows_on a bs m)).pair x y ≡ (rows_on a (bs ++ b ∷ []) m).pair x y
row-here a b bs m paired x y =
    let more : listed y (bs ++ b ∷ []) ≡ (eqb y b || listed y bs) = listed-more y bs b in
    elim (cases_eq x a) [
      | inr other ↦ let e = ne_eqb x a other in grind (arith, nat_tests)
      | inl here ↦
          let e = eq-eqb x a here in
          elim (cases_eq y b) [
            | inl same ↦ let d = eq-eqb y b same in let p : m.pair x y ≡ true = ap₂ m.pair here same ∙ paired in grind (arith, nat_tests)
            | inr apart ↦ let d = ne_eqb y b apart in grind (arith, nat_tests)
          ]
    ]

pub row-more : (a b : ℕ) (bs : List ℕ) (m : Map) → m.pair a b ≡ true → with_pair a b (rows_on a bs m) ≡ rows_on a (bs ++ b ∷ []) m
row-more a b bs m paired = same_map _ _ (λ k. refl) (row-here a b bs m paired)

pub row-done : (a : ℕ) (bs : List ℕ) (m : Map) → ((k : ℕ) → listed k bs ≡ m.pair a k) → rows_on a bs m ≡ rows_below (a + 1) m
row-done a bs m all = same_map _ _ (λ k. refl) (λ x y. elim (cases_eq x a) [
  | inl here ↦ let e = eq-eqb x a here in let p : listed y bs ≡ m.pair x y = all y ∙ ap (λ (z : ℕ). m.pair z y) (sym here) in grind (arith, nat_tests)
  | inr other ↦ let e = ne_eqb x a other in grind (arith, nat_tests)
])

pub units-more : (u : ℕ) (us : List ℕ) → with_unit u (units_on us) ≡ units_on (us ++ u ∷ [])
units-more u us = same_map _ _ (λ k. sym (listed-more k us u)) (λ x y. refl)

pub units-done : (us : List ℕ) (m : Map) → ((k : ℕ) → listed k us ≡ m.unit k) → units_on us ≡ unpaired m
units-done us m all = same_map _ _ all (λ x y. refl)

-- a cause is not both absent and present
pub not-refused : (cause : Option StoreFault) (fault : StoreFault) → cause ≡ None → cause ≡ Some fault → ⊥
not-refused cause fault none some = let z : ◌≡◌ {A = ℕ} 0 1 = cc in omega arith
