-- The units of a set marked one after another: the mark of one more unit.
use Rattle.std.proofs.Common.{◌≡◌, ℕ, ◌+◌, ◌-◌, ◌%◌, ◌<◌, ◌≤◌, Bool, true, false, not, ◌&&◌, ◌||◌, eqb, leb, ◌≢◌, ◌⊎◌, List, [], ◌∷◌, ◌++◌, length, get_or, set, sym, refl, ap, ◌∙◌, inl, inr, arith, get_or-set_other, get_or-set_same}
use Rattle.std.proofs.lemmas.Bool.{both_ways, cases_eq, cases_lt, eq-eqb, ne_eqb, le-leb, lt-leb, and_left, and_from, or_left, or_right}
use Rattle.std.proofs.lemmas.Bool.Decides.{nat_tests}
use Rattle.theory.specs.Maps.{listed}
use Rattle.theory.proofs.Distinct.{listed-more}
use Rattle.sheets.specs.Sheets.{wiped, marked}
use Rattle.sheets.proofs.Wipes.{wiped-mark}

-- the sheet with a mark at u
abbrev pub with_mark : List ℕ → ℕ → List ℕ
with_mark sheet u = set sheet (u - 1) (get_or sheet (u - 1) 0 % 2 + 2)

module _ (sheet : List ℕ) (u : ℕ) (low : 1 ≤ u) (high : u ≤ length sheet) where
  marked-here : (k : ℕ) → k ≡ u → marked (with_mark sheet u) k ≡ true
  marked-here k e =
      let place : k - 1 ≡ u - 1 = ap (λ (x : ℕ). x - 1) e in
      let is : get_or (with_mark sheet u) (k - 1) 0 ≡ get_or sheet (u - 1) 0 % 2 + 2 =
      ap (λ (x : ℕ). get_or (with_mark sheet u) x 0) place ∙ get_or-set_same sheet (u - 1) (get_or sheet (u - 1) 0 % 2 + 2) 0 (omega arith) in
      and_from _ _ (le-leb 1 k (omega arith)) (le-leb 2 (get_or (with_mark sheet u) (k - 1) 0) (omega arith))

  marked_other : (k : ℕ) → k ≢ u → (k < 1) ⊎ (1 ≤ k) → marked (with_mark sheet u) k ≡ marked sheet k
  marked_other k ne (inl zero) = and_left (leb 1 k) _ (lt-leb 1 k zero) ∙ sym (and_left (leb 1 k) _ (lt-leb 1 k zero))
  marked_other k ne (inr some) =
      let apart : k - 1 ≢ u - 1 = λ e. ne (omega arith) in
      ap (λ (x : ℕ). leb 1 k && leb 2 x) (get_or-set_other sheet (u - 1) (k - 1) (get_or sheet (u - 1) 0 % 2 + 2) 0 apart)

-- the units on the list are marked, and then u
module _ (entry sheet : List ℕ) (us : List ℕ) (u : ℕ) (low : 1 ≤ u) (high : u ≤ length sheet) (done : (k : ℕ) → marked sheet k ≡ (marked entry k || listed k us)) where
  pub marks-more : (k : ℕ) → marked (with_mark sheet u) k ≡ (marked entry k || listed k (us ++ u ∷ []))
  marks-more k = elim (cases_eq k u) [
    | inl e ↦ marked-here sheet u low high k e ∙ sym (or_right (marked entry k) _ (listed-more k us u ∙ or_left _ _ (eq-eqb k u e)))
    | inr ne ↦
        marked_other sheet u low high k ne (cases_lt k 1) ∙ done k
        ∙ ap (λ b. marked entry k || b) (sym (listed-more k us u ∙ ap (λ b. b || listed k us) (ne_eqb k u ne)))
  ]

  pub below_more : wiped sheet ≡ wiped entry → wiped (with_mark sheet u) ≡ wiped entry
  below_more e = wiped-mark sheet (u - 1) (get_or sheet (u - 1) 0 % 2 + 2) (omega arith) (omega arith) ∙ e

-- a member is no zero, where the set has none
pub above-zero : (f : ℕ → Bool) → f 0 ≡ false → (u : ℕ) → f u ≡ true → 1 ≤ u
above-zero f none u on = elim (cases_eq u 0) [ inl e ↦ absurd (both_ways _ none (ap f (sym e) ∙ on)) | inr ne ↦ omega (arith, ne) ]

-- the units on the list that are marked are out of the set, and then u, where it is marked
module _ (f rest mark : ℕ → Bool) (us : List ℕ) (u : ℕ) (done : (k : ℕ) → rest k ≡ (f k && not (listed k us && mark k))) where
  pub unmarked-more : mark u ≡ false → (k : ℕ) → rest k ≡ (f k && not (listed k (us ++ u ∷ []) && mark k))
  unmarked-more off k =
      let more = listed-more k us u in
      let before = done k in
      elim (cases_eq k u) [
        | inl e ↦ let same : mark k ≡ false = ap mark e ∙ off in grind (arith, nat_tests)
        | inr ne ↦ let apart = ne_eqb k u ne in grind (arith, nat_tests)
      ]

  pub taken-more : mark u ≡ true → (k : ℕ) → (not (eqb k u) && rest k) ≡ (f k && not (listed k (us ++ u ∷ []) && mark k))
  taken-more on k =
      let more = listed-more k us u in
      let before = done k in
      elim (cases_eq k u) [
        | inl e ↦
            let same : mark k ≡ true = ap mark e ∙ on in
            let here = eq-eqb k u e in
            grind (arith, nat_tests)
        | inr ne ↦ let apart = ne_eqb k u ne in grind (arith, nat_tests)
      ]

-- out of a set are its own marked units
pub of-members : (a b : Bool) → (a && not (a && b)) ≡ (a && not b)
of-members true b = refl
of-members false b = refl
