-- An order with a unit put in or taken out: it stays lawful, and each number has the rank that it has there.
use Rattle.std.proofs.Common.{◌≡◌, ℕ, zero, suc, ◌+◌, ◌-◌, ◌<◌, ◌≤◌, true, false, not, ◌&&◌, leb, ◌⊎◌, List, [], ◌∷◌, ◌++◌, length, get_or, take, drop, replicate, Option, Some, None, sym, refl, ap, ◌∙◌, subst, inl, inr, ⊎_elim, arith}
use Rattle.std.proofs.lemmas.List.{length-take-le, get_or-take}
use Rattle.std.specs.List.{remove}
use Rattle.std.proofs.lemmas.Bool.{and_from, le-leb, not_from_false, cases_Bool, cond-true, cond-false}
use Rattle.theory.specs.Maps.{listed}
use Rattle.theory.specs.Chains.{On}
use Rattle.theory.specs.Ranks.{rank_in, Once, inserted, removed}
use Rattle.theory.proofs.Distinct.{listed-from-off, on-from-listed, off-from-listed, on-at, at_on, rank-at, fewer}
use Rattle.theory.proofs.Ranks.{removed-here, removed-next, removed-none, on-inserted, once-inserted, on-removed, once-removed}
use Rattle.theory.proofs.Tests.{passed}
use Rattle.theory.proofs.Lists.{listed-on}
use Rattle.ranks.specs.Orders.{Lawful, Ranking, rank_found}

pub inserted-is : (k v : ℕ) (xs : List ℕ) → inserted k v xs ≡ take k xs ++ v ∷ drop k xs
inserted-is zero v xs = refl
inserted-is (suc k) v [] = refl
inserted-is (suc k) v (x ∷ xs) = ap (λ l. x ∷ l) (inserted-is k v xs)

pub inserted-last : (v : ℕ) (xs : List ℕ) → inserted (length xs) v xs ≡ xs ++ v ∷ []
inserted-last v [] = refl
inserted-last v (x ∷ xs) = ap (λ l. x ∷ l) (inserted-last v xs)

pub inserted_after : (k v : ℕ) (xs : List ℕ) → k ≡ length xs → inserted k v xs ≡ xs ++ v ∷ []
inserted_after k v xs all = ap (λ j. inserted j v xs) all ∙ inserted-last v xs

-- what stands at k is taken out
pub removed-is : (k : ℕ) (xs : List ℕ) → Once xs → k < length xs → removed (get_or xs k 0) xs ≡ take k xs ++ drop (suc k) xs
removed-is k [] once h = absurd (omega arith)
removed-is zero (x ∷ xs) once h = removed-here x xs x refl ∙ removed-none x xs once.0
removed-is (suc k) (x ∷ xs) once h =
    removed-next x xs (get_or xs k 0) (λ e. once.0 (subst (λ (z : ℕ). On z xs) (sym e) (on-at xs k (omega arith)))) ∙ ap (λ l. x ∷ l) (removed-is k xs once.1 (omega arith))

pub insert_lawful : (k u : ℕ) (order : List ℕ) → 1 ≤ u → u ≤ 255 → listed u order ≡ false → Lawful order → Lawful (inserted k u order)
insert_lawful k u order one most off law = record {
  low = λ w o. ⊎_elim (λ e. omega arith) (law.low w) ((on-inserted k u order w).0 o);
  high = λ w o. ⊎_elim (λ e. omega arith) (law.high w) ((on-inserted k u order w).0 o);
  once = once-inserted k u order law.once (off-from-listed u order off);
}

pub remove_lawful : (u : ℕ) (order : List ℕ) → Lawful order → Lawful (removed u order)
remove_lawful u order law = record {
  low = λ w o. law.low w ((on-removed order u w).0 o).0;
  high = λ w o. law.high w ((on-removed order u w).0 o).0;
  once = once-removed order u law.once;
}

-- a unit that is not in the order finds room
pub room : (u : ℕ) (order : List ℕ) → Lawful order → 1 ≤ u → u ≤ 255 → listed u order ≡ false → length order < 255
room u order law one most off = fewer 255 order law.once law.low law.high u one most (off-from-listed u order off)

-- a unit that was taken out is not in the order
pub gone : (u : ℕ) (order : List ℕ) → listed u (removed u order) ≡ false
gone u order = listed-from-off u (removed u order) (λ o. ((on-removed order u u).0 o).1 refl)

-- a unit stands in the order at its rank, counted from 1: what stands there is taken out with it
pub record Stands (order : List ℕ) (u rank : ℕ) : Type 0 where
  pub low : 1 ≤ rank
  pub within : rank - 1 < length order
  pub taken : remove order (rank - 1) ≡ removed u order

pub stands : (order : List ℕ) (u rank : ℕ) → Once order → rank_found order u ≡ Some rank → Stands order u rank
stands order u rank once e = go (cases_Bool (listed u order))
  where
    go : (listed u order ≡ true) ⊎ (listed u order ≡ false) → Stands order u rank
    go (inl t) =
        let p = at_on order u (on-from-listed u order t) in
        let same : Some rank ≡ Some (rank_in order u) = sym e ∙ cond-true (listed u order) (Some (rank_in order u)) None t in
        let is : rank ≡ rank_in order u = cc in
        let l = p.1 in
        let at : rank ≡ p.0 + 1 = omega (arith, is, ap (rank_in order) p.2, rank-at order once p.0 l) in
        let here : get_or order (rank - 1) 0 ≡ u = ap (λ j. get_or order j 0) (omega arith) ∙ p.2 in
        record {
          low = omega arith;
          within = omega arith;
          taken = sym (removed-is (rank - 1) order once (omega arith)) ∙ ap (λ v. removed v order) here;
        }
    go (inr f) =
        let same : Some rank ≡ None = sym e ∙ cond-false (listed u order) (Some (rank_in order u)) None f in
        absurd cc

-- a number with no rank is not in the order
pub not_found : (order : List ℕ) (u : ℕ) → rank_found order u ≡ None → removed u order ≡ order
not_found order u e = go (cases_Bool (listed u order))
  where
    go : (listed u order ≡ true) ⊎ (listed u order ≡ false) → removed u order ≡ order
    go (inl t) =
        let same : Some (rank_in order u) ≡ None = sym (cond-true (listed u order) (Some (rank_in order u)) None t) ∙ e in
        absurd cc
    go (inr f) = removed-none u order (off-from-listed u order f)

-- every place of an array of zeros reads 0, and so does what lies past it
pub zeros : (n i : ℕ) → get_or {A = ℕ} (replicate n 0) i 0 ≡ 0
zeros zero i = refl
zeros (suc n) zero = refl
zeros (suc n) (suc i) = zeros n i

-- no unit has a rank where no order is
pub nones : (n u : ℕ) → get_or {A = Option ℕ} (replicate n None) u None ≡ None
nones zero u = refl
nones (suc n) zero = refl
nones (suc n) (suc u) = nones n u

-- each unit of an order is new to the front before it
pub front-off : (units : List ℕ) (i : ℕ) → i < length units → Once units → On (get_or units i 0) (take i units) → ⊥
front-off units i h once o =
    let p = at_on (take i units) (get_or units i 0) o in
    let many = length-take-le i units (omega arith) in
    let j = p.0 in
    let l = p.1 in
    let same : get_or units j 0 ≡ get_or units i 0 = sym (get_or-take i units j 0 (omega arith)) ∙ p.2 in
    let a = rank-at units once i h in
    let b = rank-at units once j (omega arith) in
    omega (arith, ap (rank_in units) same)

-- and is a new unit's number, where the order is lawful
pub front-new : (units order : List ℕ) (i : ℕ) → i < length units → order ≡ take i units → Lawful units → (leb 1 (get_or units i 0) && not (listed (get_or units i 0) order)) ≡ true
front-new units order i h e law =
    let u = get_or units i 0 in
    and_from (leb 1 u) (not (listed u order)) (le-leb 1 u (law.low u (on-at units i h)))
    (not_from_false (listed u order) (listed-from-off u order (λ o. front-off units i h law.once (subst (On u) e o))))

-- the order and the ranks of a table are each other's inverse
module _ (order : List ℕ) (place : List (Option ℕ)) (ranking : Ranking order place) where
  pub numbered : (i : ℕ) → i < length order → get_or place (get_or order i 0) None ≡ Some (i + 1)
  numbered i h =
      let u = get_or order i 0 in
      let here = listed-on u order in
      let rank : rank_in order u ≡ i + 1 = omega (arith, rank-at order ranking.lawful.once i h) in
      ranking.ranked u ∙ cond-true (listed u order) (Some (rank_in order u)) None (passed (listed u order) (here.1 (on-at order i h))) ∙ ap Some rank

  pub absent : (u : ℕ) → (On u order → ⊥) → get_or place u None ≡ None
  absent u far = ranking.ranked u ∙ cond-false (listed u order) (Some (rank_in order u)) None (listed-from-off u order far)
